-- Lemmas, in the order of reading.

-- Of `cam6_draw`, four words say a part of the torus.
pub mod DrawValues
-- Of it, clap's matches and faults are functions of the words.
pub mod DrawRefusing
-- What it is asked for, by the parts that clap's rows say.
pub mod DrawAsked
-- Of `cam6_rle`, clap's matches and faults are functions of the words.
pub mod RleRefusing

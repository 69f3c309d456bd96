-- Lemmas, in the order of reading.

-- Refused arguments, by the kind of clap's error, or where they ask for nothing.
pub mod Refusing
-- So what clap makes of arguments is what their contracts say, for any command that is simple.
pub mod Taking
-- What the code reads of an option's text is the number there.
pub mod Numbers

-- Lemmas, in the order of reading.

-- A map's length is the count of its keys.
pub mod Members
-- A saved machine's value has no float in it and doesn't nest deep.
pub mod SavedValues
-- No reply has a float in it, and no outcome.
pub mod Floats
-- No reply nests deep, and no outcome.
pub mod Flat
-- What holds of a value that is there after some steps, if there is one.
pub mod Steps
-- Of what is read, each object has its keys in byte order, each once.
pub mod Ordered
-- The first bytes of a line, by which its limit goes.
pub mod Heads
-- What a line says, by the value that it is: as commands show it, or as events do.
pub mod Saying
-- What a line says where its spelling is looked at too.
pub mod Spelling
-- An object with as many keys as are found in it has these keys and no others.
pub mod Exactly
-- What stands at a key, where something is read there.
pub mod Found
-- Values with a word at a key, by which what they show is told apart.
pub mod Worded
-- Colours as a list of numbers: what is read of one, and what one says.
pub mod ColourLists
-- Colours are as many as the values that they are read of.
pub mod ColourCount
-- Lists that a loop makes longer by one element in each round.
pub mod Growing
-- Four values that are planes, one by one.
pub mod FourPlanes
-- The digits of colours are ASCII.
pub mod ColourDigits
-- A list that is read as a cycle's entries shows them.
pub mod ShownEntries
-- A line that says a command has a value that shows it.
pub mod Showing
-- A line that says an event has a value that shows it.
pub mod ShowingEvents
-- A line whose value shows a command says it.
pub mod Telling
-- A line whose value shows an event says it.
pub mod TellingEvents
-- A line says the seat of a user exactly where its value shows it.
pub mod SeatLines
-- The compact text of a value of whole numbers, whose keys are in order, is read back as the value.
pub mod ReadBack
-- The text of what a band leaves, and what it is read as.
pub mod BandTexts
-- Lines of bands that are spelled plainly say those bands.
pub mod PlainBands
-- JSON's compact text has no control character, so it is one line.
pub mod Plain
-- Hexadecimal digits stand for themselves in a JSON string, and are ASCII.
pub mod HexTexts
-- What stands between the quotes of a JSON string, unescaped, is UTF-8 where the bytes are.
pub mod Utf8Contents
-- So are the keys and strings among the tokens of such bytes,
pub mod Utf8Tokens
-- those of the value that the tokens are,
pub mod Utf8Values
-- and those of the value that serde_json makes of it.
pub mod TextsAreUtf8
-- The compact text of a value of whole numbers is UTF-8 where its strings and keys are.
pub mod CompactUtf8
-- Lines that are spelled plainly say their commands.
pub mod PlainLines
-- The texts of the replies that are sent most, and what they are read as.
pub mod PlainReplies
-- The whole numbers of a value that serde_json reads have 64 bits.
pub mod WordsRead
-- The value of a machine that can be saved has whole numbers, keys in order, and texts in UTF-8,
pub mod SavedTexts
-- and is read as the machine.
pub mod SavedBack
-- What is read as a saved machine can be written as one.
pub mod SavedSayable
-- A saved machine is loaded by one line alone in each version, and written in one text.
pub mod LoadLines
-- The text of a rule is UTF-8 where a line defines it, and where its ask does.
pub mod RuleTexts

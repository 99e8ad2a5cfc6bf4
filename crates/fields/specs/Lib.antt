-- To be believed, in this order: numbers, the tags, one field, the walk over a whole file, the events of a log, what each function
-- promises, the reading place and what its functions promise, the walk over a file's fields.
pub mod Numbers
pub mod Tags
pub mod Field
pub mod Walk
pub mod Events
pub mod Promises
pub mod Place
pub mod Steps
-- A device, not to be believed: how a tag is read by its header.
pub mod Header

-- What follows from the definitions of words and pointers. Nothing here need be believed.
--   Field    a bit field: written and read back, and the fields beside it
--   Codes    each word is its fields side by side; the codes of two bits; what 7-bit ASCII mode makes of a byte is a byte
--   Byte     bytes in the host's memory: read back, and all others as they were
--   Special  the special codes by ranges, and by a set
--   Pointer  the end of a buffer: where it is reached, and against the rule as it was
--   Buffer   services one after the other end a buffer
--   Length   there is at least one code of any length
pub mod Field
pub mod Codes
pub mod Byte
pub mod Special
pub mod Pointer
pub mod Buffer
pub mod Length

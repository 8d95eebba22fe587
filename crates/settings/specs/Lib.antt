-- The program for caretakers: what its contracts cite.
--   Typed    the line that is typed
--   Advice   what to type instead
--   Answer   what is answered
--   Sentence the sentence for a refusal
-- What follows from them stands in laws/.
pub mod Typed
pub mod Advice
pub mod Answer
pub mod Sentence
pub mod laws

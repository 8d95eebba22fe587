-- What a refusal through the door leaves by value (ByValue).
mod ByValue

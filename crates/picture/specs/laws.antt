-- What follows from the definitions of the program. Nothing here need be believed.
--   Asked    a line that asks for a frame, in numbers
--   Typing   what the code keeps of what is typed
pub mod Asked
pub mod Typing

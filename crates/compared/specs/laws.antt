-- What follows from this program's definitions. Nothing here need be believed.
--   Lent      what is lent of a list, and the rest behind it
--   Session   a text that is taken in parts
--   Views     what the code keeps is settled by what the definitions say of it
pub mod Lent
pub mod Session
pub mod Views

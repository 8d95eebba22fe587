-- What follows of a frame that is given to an arrival. Nothing here need be believed.
--   Wire   a frame written for a port's control bits, read and given to an arrival at that port
pub mod Wire

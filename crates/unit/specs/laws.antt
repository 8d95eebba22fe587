-- What follows from the definitions of the record and the refusals. Nothing here need be believed.
--   Refusals   each number exactly when its row applies and none before it; their order, and never 5; a call's number part by part
--   Sound      refusal 0 is soundness, of each kind of call; the one law for every change of a record; where the area ends and a port's block lies
--   Tables     setup, row 6 and the other calls by any rows for a setting: how today's rows are compared with older ones
--   Location   the bases of a Mighty Mux, and what asking them changed: nothing of an EDS-8's
--   Area       where the area ends, and what taking out its check changed: nothing
--   Base       the two numbers of a wrong base, and what telling them apart changed
--   Replies    the number of each answer; what a refused call leaves, and one that is not
--   Ports      the ports of a record
--   Set        the set of special codes in the setting and the record: setup keeps it, and no refusal asks it
--   Views      what the code answers is settled by what the definitions say of it
--   Kind       the kind of unit in them: setup keeps it; a record with more than 40 entries is refused, of either kind
pub mod Refusals
pub mod Sound
pub mod Tables
pub mod Location
pub mod Area
pub mod Base
pub mod Replies
pub mod Ports
pub mod Set
pub mod Views
pub mod Kind

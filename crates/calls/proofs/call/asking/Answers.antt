-- `calls::call::asking` meets its contract, by what its parts ensure.
use Rattle.calls.proofs.call.asking.Goals as goal

pub returns : goal.returns
returns c = rw c.no_setting.ensures

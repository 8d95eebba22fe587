-- `words::field::put` meets its contract: what it writes is a word.
use Rattle.std.proofs.Common.{arith}
use Rattle.words.specs.Field.{get, put}
use Rattle.words.specs.laws.Field.{put_fits}
use Rattle.words.proofs.field.put.Goals as goal

pub overflow_add-result : goal.overflow_add-result
unfolding put get
overflow_add-result c = omega (arith, put_fits c.args.f c.args.v c.args.w c.requires.whole c.requires.v_lt_span c.ranges.w.fits)

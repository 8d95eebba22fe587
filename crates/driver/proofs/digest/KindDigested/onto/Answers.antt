-- A kind is taken as its contract says: its tag is its number.
use Rattle.std.proofs.Common.{◌≡◌, ap, refl, ◌∙◌}
use denote.Enum.Declared.{tag_of}
use Rattle.interrupt.specs.declared.Kind.{Kind}
use Rattle.interrupt.specs.declared.Kind.TheVariants.{Eds8, MightyMux}
use Rattle.interrupt.specs.contracts.Kind.{the_type}
use Rattle.driver.specs.Digest.{taken, kind_number}
use Rattle.driver.proofs.digest.KindDigested.onto.Goals as goal

tag_number : (k : Kind) → tag_of the_type k ≡ kind_number k
unfolding kind_number
tag_number Eds8 = refl
tag_number MightyMux = refl

pub returns : goal.returns
returns c = c.and.ensures ∙ ap (taken c.args.d.value) (tag_number c.args.self)

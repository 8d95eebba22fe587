-- Any two outcomes that the contracts of one event played and of a replay allow are equal.
-- Not here: the contracts, in src/play.rt and src/walk.rt.
-- Assumes nothing.
use Rattle.std.specs.Prelude.{◌≡◌, List, ℕ, length, Result, Ok, Err}
use Rattle.std.proofs.Common.{sym, ◌∙◌, ap, arith}
use Rattle.ground.specs.Machine.{run}
use Rattle.unit.specs.declared.mux.Mux.{Mux}
use Rattle.unit.specs.declared.refusal.Refusal.{Refusal}
use Rattle.unit.specs.declared.refusal.Refusal.TheVariants.{BadBlock, BadPorts, Misaligned, Crosses, Unsound, BadMemory, NoPort, TooMany, ShortList, TooHigh, BadLocation}
use Rattle.unit.specs.Refusals.{number_of}
use Rattle.unit.specs.laws.Views.{number_one}
use Rattle.unit.specs.Reply.{Replied, World, Outcome, outcome}
use Rattle.recording.specs.declared.event.Event.{Event}
use Rattle.recording.specs.Pass.{Kept, kept}
use Rattle.replay.specs.declared.play.Played.{Played}
use Rattle.replay.specs.Replay.{played_of, plays, begun, replayed}

-- of one event: the answer with the record, the memory and the list
pub play_one : (w : World) (d : List ℕ) (e : Event) (r s : Replied) (m n xs ys : List ℕ) → outcome r m xs ≡ plays w d e → outcome s n ys ≡ plays w d e → (r ≡ s) × ((m ≡ n) × (xs ≡ ys))
play_one w d e r s m n xs ys p q =
    let z : outcome r m xs ≡ outcome s n ys = p ∙ sym q in
    (ap (λ (o : Outcome). record { reply = o.reply; mux = o.world.mux }) z, (ap (λ (o : Outcome). o.world.memory) z, ap (λ (o : Outcome). o.list) z))

-- of a replay: the number with the record, and the memory
pub replay_one : (m : List ℕ) (es : List Event) (r s : Played) (xs ys : List ℕ) → kept r xs ≡ run replayed (kept (begun (length m)) m) es → kept s ys ≡ run replayed (kept (begun (length m)) m) es → (r ≡ s) × (xs ≡ ys)
replay_one m es r s xs ys p q =
    let z : kept r xs ≡ kept s ys = p ∙ sym q in
    (ap (λ (k : Kept Played). k.state) z, ap (λ (k : Kept Played). k.lent) z)

-- and the code's answer has numbers and a record of its own
pub number_some : (r : Refusal) → number_of r ≡ 0 → ⊥
number_some BadBlock e = omega (arith, e)
number_some BadPorts e = omega (arith, e)
number_some Misaligned e = omega (arith, e)
number_some Crosses e = omega (arith, e)
number_some Unsound e = omega (arith, e)
number_some BadMemory e = omega (arith, e)
number_some NoPort e = omega (arith, e)
number_some TooMany e = omega (arith, e)
number_some ShortList e = omega (arith, e)
number_some TooHigh e = omega (arith, e)
number_some BadLocation e = omega (arith, e)

pub played_one : (r s : Result Mux Refusal) → played_of r ≡ played_of s → r ≡ s
played_one (Ok u) (Ok v) e = let same : u ≡ v = ap (λ (p : Played). p.mux) e in λ i. Ok (same i)
played_one (Ok u) (Err s) e = absurd (number_some s (sym (ap (λ (p : Played). p.code) e)))
played_one (Err r) (Ok v) e = absurd (number_some r (ap (λ (p : Played). p.code) e))
played_one (Err r) (Err s) e = let same : r ≡ s = number_one r s (ap (λ (p : Played). p.code) e) in λ i. Err (same i)

-- One event, one byte and one read of a day, by what the code of each part gives.
--   happened_is               an event, between two looks at the control blocks
--   whole_taken, part_taken   a byte that makes a field whole, and one that does not
--   heard_start, heard_more   before the first read, and one read more
-- Not here: what a day comes to, in laws/Day.
-- Assumes nothing.
use Rattle.std.specs.Prelude.{◌≡◌, refl, Bool, true, false, List, [], ℕ}
use Rattle.std.proofs.Common.{sym, ◌∙◌, ap}
use Rattle.ground.specs.Choose.{pick}
use Rattle.ground.specs.laws.Rows.{pick_true, pick-false}
use Rattle.unit.specs.Reply.{Replied}
use Rattle.unit.specs.Reply.{Replied, world, looked}
use Rattle.driver.specs.Text.{Turned, Heard}
use Rattle.driver.specs.laws.Heard.{heard_on}
use Rattle.recording.specs.declared.event.Event.{Event}
use Rattle.recording.specs.Pass.{Kept, kept}
use Rattle.stream.specs.declared.Stream.{Stream}
use Rattle.stream.specs.Stream.{took, ready, event}
use Rattle.day.specs.Names.{View, viewed}
use Rattle.day.specs.Day.{Day, dawn, with_stream, told, after, left, happened, read, taken, on, same}

-- an event, by its answer and the two looks
pub happened_is : (d q : Day) (m n : List ℕ) (e : Event) (r : Replied) (was is : View)
    → q ≡ after d e.tag r.reply.code r.mux was is
    → is ≡ viewed r.mux.setting n
    → was ≡ viewed d.unit.setting m
    → looked r n ≡ told (world d.unit m) e
    → kept q n ≡ happened (kept d m) e
unfolding happened
happened_is d q m n e r was is a i w t =
    ap (λ (x : Day). kept x n) (a ∙ ap (λ (v : View). after d e.tag r.reply.code r.mux v is) w ∙ ap (λ (v : View). after d e.tag r.reply.code r.mux (viewed d.unit.setting m) v) i)
    ∙ ap (left (kept d m) e.tag) t

-- a byte that makes a field whole
pub whole_taken : (d e q : Day) (m n : List ℕ) (b : ℕ) (s : Stream) (t : Bool) (x : Event)
    → s ≡ took d.stream b → e ≡ with_stream d s → t ≡ ready s → t ≡ true → x ≡ event s → kept q n ≡ happened (kept e m) x → kept q n ≡ taken (kept d m) b
unfolding taken
whole_taken d e q m n b s t x i w r y v h =
    let f : Stream → Kept Day = λ z. pick (ready z) (happened (read (kept d m) z) (event z)) (read (kept d m) z) in
    h ∙ ap (λ (z : Event). happened (kept e m) z) v ∙ ap (λ (z : Day). happened (kept z m) (event s)) w ∙ sym (pick_true (ready s) (happened (read (kept d m) s) (event s)) (read (kept d m) s) (sym r ∙ y)) ∙ ap f i

-- and one that does not
pub part_taken : (d e : Day) (m : List ℕ) (b : ℕ) (s : Stream) (t : Bool)
    → s ≡ took d.stream b → e ≡ with_stream d s → t ≡ ready s → t ≡ false → kept e m ≡ taken (kept d m) b
unfolding taken
part_taken d e m b s t i w r y =
    let f : Stream → Kept Day = λ z. pick (ready z) (happened (read (kept d m) z) (event z)) (read (kept d m) z) in
    ap (λ (z : Day). kept z m) w ∙ sym (pick-false (ready s) (happened (read (kept d m) s) (event s)) (read (kept d m) s) (sym r ∙ y)) ∙ ap f i

-- nothing is read yet
pub heard_start : (d : Day) (m : List ℕ) → d ≡ dawn → Heard taken (kept dawn m) (kept d m)
heard_start d m e = record { text = []; line = ap (λ (x : Day). kept x m) e }

-- one read more
pub heard_more : (m₀ m n : List ℕ) (d q : Day) → Heard taken (kept dawn m₀) (kept d m) → Turned on same (kept d m) (kept q n) → Heard taken (kept dawn m₀) (kept q n)
heard_more m₀ m n d q h t = heard_on taken (kept dawn m₀) (λ (k : Kept Day). k) on same (λ k text. refl) (λ k. refl) (kept d m) (kept q n) h t

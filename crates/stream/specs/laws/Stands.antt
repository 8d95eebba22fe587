-- Where reading byte by byte stands between two bytes, and what comes of what is left.
--   news_none, news_one, stay, silent   the event that a byte gives, if it does; after a fault there is none, and nothing changes
--   reached              how far the fields of a state come, as reading on has it
--   Kept, Stands         after a whole field, or within one that is cut short
--   Reads                what is left comes to where reading on comes to, with the same events
--   told                 a byte has come: the field is whole, or more must come, or something is at fault
--   next, reads          from one byte to the next, to the end
-- Not here: what one byte does, in Steps; what some bytes of a field decide, in Front; the recording from its start, in Whole.
-- Assumes nothing.
use Rattle.std.specs.Prelude.{◌≡◌, ℕ, zero, suc, ◌+◌, ◌-◌, ◌%◌, ◌^◌, ◌<◌, ◌≤◌, Bool, true, false, ◌&&◌, List, [], ◌∷◌, ◌++◌, length, take, drop, ◌==◌, ◌≢◌, nat_lt, slice_set}
use Rattle.std.proofs.Math.Path.{refl, sym, ap, subst}
use Rattle.std.proofs.Common.{◌∙◌, add-zero, add-one, arith, length-append, length-set, take-append-drop, length-take-le, take-suc-set, drop-drop, drop_at, eqb-true, eq-eqb, ne_eqb, lt-ltb, append-nil}
use Rattle.std.proofs.Math.Nat.{mod-eq_of_lt}
use Rattle.std.proofs.Math.ListN.{length-drop, get_or-append}
use Rattle.std.proofs.Math.Seq.{append_snoc}
use Rattle.std.proofs.lemmas.Bool.{eqb-false}
use Rattle.ground.specs.Choose.{pick}
use Rattle.ground.specs.Machine.{run, gather}
use Rattle.ground.specs.laws.Rows.{pick_true, pick-false}
use Rattle.recording.specs.declared.event.Event.{Event}
use Rattle.recording.specs.declared.reading.Done.{Done}
use Rattle.recording.specs.Scan.{One, done, scanned, heard}
use Rattle.recording.specs.Layout.{field_length}
use Rattle.recording.specs.Event.{CUT-SHORT}
use Rattle.recording.specs.Field.{tag_in, event_in, field_code}
use Rattle.recording.specs.laws.Codes.{code_good}
use Rattle.recording.specs.laws.Scan.{scan_on, scan-end, goes, stops, one_good, Step, ended, good, bad, scan_step, at_good}
use Rattle.stream.specs.declared.Stream.{Stream}
use Rattle.stream.specs.Stream.{LONGEST, counted, judged, took, ready, event, news, gives}
use Rattle.stream.specs.laws.Steps.{took_first, took_on, took_none, grown_longer}
use Rattle.stream.specs.laws.Front.{field_most, event_front, code_front, cut_room}

-- ---- what a byte gives

-- no news but of a field that is whole
news_none : (s : Stream) → (s.code ≢ 0) → news s ≡ []
unfolding news
news_none s n = pick-false (ready s) (event s ∷ []) [] (ap (λ (t : Bool). t && nat_lt 0 s.fill) (ne_eqb s.code 0 n))

news_one : (s : Stream) → s.code ≡ 0 → 0 < s.fill → news s ≡ event s ∷ []
unfolding news
news_one s e h = pick_true (ready s) (event s ∷ []) [] (rw (eq-eqb s.code 0 e, lt-ltb 0 s.fill h) refl)

-- after a fault nothing changes, and nothing is given
module _ (s : Stream) (n : s.code ≡ 0 → ⊥) (m : s.code ≡ CUT-SHORT → ⊥) where
  stay : (ys : List ℕ) → run took s ys ≡ s
  unfolding run
  stay [] = refl
  stay (y ∷ ys) = ap (λ (r : Stream). run took r ys) (took_none s y n m) ∙ stay ys

  silent : (ys : List ℕ) → gather took gives s ys ≡ []
  unfolding gather
  silent [] = refl
  silent (y ∷ ys) = ap (λ (r : Stream). news r ++ gather took gives r ys) (took_none s y n m) ∙ ap (λ (es : List Event). es ++ gather took gives s ys) (news_none s n) ∙ silent ys

-- ---- how far the fields come

-- past the last field where it is whole, else at its tag
unfoldable pub reached : Stream → Done
reached s = done s.code (pick (s.code == 0) (s.at + s.fill) s.at) s.count

pub reached_past : (s : Stream) → s.code ≡ 0 → reached s ≡ done 0 (s.at + s.fill) s.count
unfolding reached
reached_past s e = rw (pick_true (s.code == 0) (s.at + s.fill) s.at (eq-eqb s.code 0 e), e) refl

pub reached_tag : (s : Stream) → (s.code ≢ 0) → reached s ≡ done s.code s.at s.count
unfolding reached
reached_tag s n = rw (pick-false (s.code == 0) (s.at + s.fill) s.at (ne_eqb s.code 0 n)) refl

module _ (all : List ℕ) where
  -- bytes of a field are kept, which stand in the recording from its tag on, followed by those that are not read yet; the field may have no more
  pub record Kept (field : List ℕ) (n p k : ℕ) (ys : List ℕ) : Type 0 where
    pub places : length field ≡ LONGEST
    pub some : 0 < n
    pub most : n ≤ LONGEST
    pub bytes : drop p all ≡ take n field ++ ys
    pub short : n ≤ field_length (tag_in (take n field))
    pub few : k ≤ p

  -- between two bytes: after a whole field, or within one that is cut short; the offset from which the fields are not read yet, and how many were
  pub data Stands (s : Stream) (ys : List ℕ) (p k : ℕ) : Type 0 where
    after : s.code ≡ 0 → length s.field ≡ LONGEST → s.at + s.fill ≡ p → p ≤ length all → s.count ≡ k → k ≤ p → drop p all ≡ ys → Stands s ys p k
    within : s.code ≡ CUT-SHORT → field_code (take s.fill s.field) ≡ CUT-SHORT → s.at ≡ p → s.count ≡ k → Kept s.field s.fill p k ys → Stands s ys p k

  -- what comes of it: so many fields more, and their events, the first of which may be given already
  pub record Reads (given : List Event) (s : Stream) (ys : List ℕ) (p k m : ℕ) : Type 0 where
    pub fields : ℕ
    pub scan : scanned m all (done 0 p k) ≡ reached (run took s ys)
    pub counts : (run took s ys).count ≡ k + fields
    pub events : given ++ gather took gives s ys ≡ heard fields all p

  -- ---- what reading on meets at an offset

  here_bad : (m p k c : ℕ) → p < length all → length all ≤ p + m → field_code (drop p all) ≡ c → (c ≢ 0) → scanned m all (done 0 p k) ≡ done c p k
  here_bad zero p k c h f e n = absurd (omega (arith, h, f))
  here_bad (suc m) p k c h f e n = go (scan_step all m p k)
    where
      go : Step all m p k → scanned (suc m) all (done 0 p k) ≡ done c p k
      go (ended l x) = absurd (omega (arith, l, h))
      go (good z x) = absurd (n (sym e ∙ z))
      go (bad z x) = x ∙ ap (λ (d : ℕ). done d p k) e

  here_good : (m p k n : ℕ) → p < length all → field_code (drop p all) ≡ 0 → field_length (tag_in (drop p all)) ≡ n → scanned (suc m) all (done 0 p k) ≡ scanned m all (done 0 (p + n) (k + 1))
  here_good m p k n h e l = scan_on all m (done 0 p k) (goes all p k h) ∙ ap (λ (d : Done). scanned m all d) (one_good all (done 0 p k) e) ∙ ap (λ (j : ℕ). scanned m all (done 0 (p + j) (k + 1))) l

  heard_more : (j p n : ℕ) (e : Event) → field_code (drop p all) ≡ 0 → field_length (tag_in (drop p all)) ≡ n → event_in (drop p all) ≡ e → heard (suc j) all p ≡ e ∷ heard j all (p + n)
  unfolding heard
  heard_more j p n e c l v = ap (λ (o : One). o.event ∷ heard j all o.next) (at_good all p c) ∙ rw (l, v) refl

  -- ---- a byte has come

  module _ (bound : length all < 2 ^ 64) (f : List ℕ) (n p k : ℕ) (ys : List ℕ) (kept : Kept f n p k ys) where
    abbrev front : List ℕ
    front = take n f

    abbrev now : Stream
    now = judged f n p k

    front_length : length front ≡ n
    front_length = length-take-le n f (omega (arith, kept.most, kept.places))

    lengths : length all - p ≡ n + length ys
    lengths = sym (length-drop p all) ∙ ap length kept.bytes ∙ length-append front ys ∙ ap (λ (j : ℕ). j + length ys) front_length

    inside : p < length all
    inside = omega (arith, lengths, kept.some)

    tag_same : tag_in (drop p all) ≡ tag_in front
    tag_same = ap (λ (zs : List ℕ). tag_in zs) kept.bytes ∙ get_or-append front ys 0 0 (omega (arith, front_length, kept.some))

    code_same : (field_code front ≢ CUT-SHORT) → field_code (drop p all) ≡ field_code front
    code_same x = ap field_code kept.bytes ∙ code_front front ys (omega (arith, front_length, kept.some)) x

    -- the field is whole
    module _ (e : field_code front ≡ 0) where
      exact : field_length (tag_in front) ≡ n
      exact = omega (arith, (code_good front e).whole, kept.short, front_length)

      good_here : field_code (drop p all) ≡ 0
      good_here = code_same (λ z. omega (arith, e, z)) ∙ e

      length_here : field_length (tag_in (drop p all)) ≡ n
      length_here = ap (λ (t : ℕ). field_length t) tag_same ∙ exact

      event_here : event_in (drop p all) ≡ event_in f
      event_here =
          ap event_in kept.bytes ∙ event_front ys front (omega (arith, exact, front_length)) ∙ sym (event_front (drop n f) front (omega (arith, exact, front_length)))
          ∙ ap event_in (take-append-drop n f)

      one_more : counted k (field_code front) ≡ k + 1
      unfolding counted
      one_more =
          pick_true (field_code front == 0) ((k + 1) % 2 ^ 64) k (eq-eqb (field_code front) 0 e)
          ∙ mod-eq_of_lt (omega (arith, bound, inside, kept.few))

      then_after : Stands now ys (p + n) (k + 1)
      then_after =
          after e kept.places refl (omega (arith, lengths, inside)) one_more (omega (arith, kept.few, kept.some))
          (sym (drop-drop n p all) ∙ ap (λ (zs : List ℕ). drop n zs) kept.bytes ∙ drop_at front ys n front_length)

      told_whole : (m : ℕ) → Reads [] now ys (p + n) (k + 1) m → Reads (news now) now ys p k (suc m)
      told_whole m r =
          record {
            fields = suc r.fields;
            scan = here_good m p k n inside good_here length_here ∙ r.scan;
            counts = omega (arith, r.counts);
            events =
                ap (λ (es : List Event). es ++ gather took gives now ys) (news_one now e kept.some)
                ∙ ap (λ (es : List Event). event_in f ∷ es) r.events ∙ sym (heard_more r.fields p n (event_in f) good_here length_here event_here);
          }

    -- it is not
    not_more : (field_code front ≢ 0) → counted k (field_code front) ≡ k
    unfolding counted
    not_more x = pick-false (field_code front == 0) ((k + 1) % 2 ^ 64) k (ne_eqb (field_code front) 0 x)

    -- more must come
    told_cut : (m : ℕ) → (field_code front ≢ 0) → Reads [] now ys p k m → Reads (news now) now ys p k m
    told_cut m x r = record { fields = r.fields; scan = r.scan; counts = r.counts; events = ap (λ (es : List Event). es ++ gather took gives now ys) (news_none now x) ∙ r.events }

    -- something is at fault
    told_fault : (m : ℕ) → length all ≤ p + m → (field_code front ≢ 0) → (field_code front ≢ CUT-SHORT) → Reads (news now) now ys p k m
    unfolding heard
    told_fault m fuel x y =
        record {
          fields = 0;
          scan =
              here_bad m p k (field_code front) inside fuel (code_same y) x ∙ sym (ap reached (stay now x y ys) ∙ reached_tag now x
              ∙ ap (λ (j : ℕ). done (field_code front) p j) (not_more x));
          counts = ap (λ (r : Stream). r.count) (stay now x y ys) ∙ not_more x ∙ sym (add-zero k);
          events = ap (λ (es : List Event). es ++ gather took gives now ys) (news_none now x) ∙ silent now x y ys;
        }

    told : (m : ℕ) → length all ≤ p + m → ((q j i : ℕ) → Stands now ys q j → length all ≤ q + i → Reads [] now ys q j i) → Reads (news now) now ys p k m
    told zero fuel more = absurd (omega (arith, fuel, inside))
    told (suc m) fuel more = go (field_code front == 0) refl (field_code front == CUT-SHORT) refl
      where
        go : (t : Bool) → (field_code front == 0) ≡ t → (u : Bool) → (field_code front == CUT-SHORT) ≡ u → Reads (news now) now ys p k (suc m)
        go true t u v =
            let e = eqb-true (field_code front) 0 t in
            told_whole e m (more (p + n) (k + 1) m (then_after e) (omega (arith, fuel, kept.some)))
        go false t true v =
            let x = eqb-false (field_code front) 0 t in
            let e = eqb-true (field_code front) CUT-SHORT v in
            told_cut (suc m) x (more p k (suc m) (within e e refl (not_more x) kept) fuel)
        go false t false v = told_fault (suc m) fuel (eqb-false (field_code front) 0 t) (eqb-false (field_code front) CUT-SHORT v)

  -- ---- byte by byte

  -- what a byte makes of where reading stands
  record Next (s : Stream) (b : ℕ) (ys : List ℕ) (p k : ℕ) : Type 0 where
    field : List ℕ
    fill : ℕ
    is : took s b ≡ judged field fill p k
    kept : Kept field fill p k ys

  module _ (bound : length all < 2 ^ 64) where
    next : (s : Stream) (b : ℕ) (ys : List ℕ) (p k : ℕ) → Stands s (b ∷ ys) p k → Next s b ys p k
    next s b ys p k (after c l e h q w d) =
        let inside : p < length all = omega (arith, h, length-drop p all, ap length d) in
        let front = take-suc-set s.field 0 b (omega (arith, l)) in
        record {
          field = slice_set s.field 0 b;
          fill = 1;
          is = took_first s b c ∙ rw (e, mod-eq_of_lt {n = p} {m = 2 ^ 64} (omega (arith, inside, bound)), q) refl;
          kept =
              record {
                places = length-set s.field 0 b ∙ l;
                some = omega arith;
                most = omega arith;
                bytes = d ∙ sym (ap (λ (zs : List ℕ). zs ++ ys) front);
                short = omega arith;
                few = w;
              };
        }
    next s b ys p k (within c z a q kept) =
        let zs = take s.fill s.field in
        let len : length zs ≡ s.fill = length-take-le s.fill s.field (omega (arith, kept.most, kept.places)) in
        let room : s.fill < field_length (tag_in zs) = omega (arith, cut_room zs z, len) in
        let front : take (s.fill + 1) (slice_set s.field s.fill b) ≡ zs ++ (b ∷ []) = ap (λ (j : ℕ). take j (slice_set s.field s.fill b)) (add-one s.fill) ∙ take-suc-set s.field s.fill b (omega (arith, kept.places, room, field_most (tag_in zs))) in
        record {
          field = slice_set s.field s.fill b;
          fill = s.fill + 1;
          is = took_on s b c ∙ grown_longer s b (omega (arith, room, field_most (tag_in zs))) ∙ rw (a, q) refl;
          kept =
              record {
                places = length-set s.field s.fill b ∙ kept.places;
                some = omega arith;
                most = omega (arith, room, field_most (tag_in zs));
                bytes = kept.bytes ∙ sym (append_snoc zs b ys) ∙ sym (ap (λ (xs : List ℕ). xs ++ ys) front);
                short = omega (arith, room, ap (λ (xs : List ℕ). field_length (tag_in xs)) front, ap (λ (t : ℕ). field_length t) (get_or-append zs (b ∷ []) 0 0 (omega (arith, len, kept.some))));
                few = kept.few;
              };
        }

    step : (s r : Stream) (b : ℕ) (ys : List ℕ) (p k m : ℕ) → took s b ≡ r → Reads (news r) r ys p k m → Reads [] s (b ∷ ys) p k m
    unfolding run gather
    step s r b ys p k m e x = subst (λ (t : Stream). Reads (news t) t ys p k m → Reads [] s (b ∷ ys) p k m) e (λ y. record { fields = y.fields; scan = y.scan; counts = y.counts; events = y.events }) x

    pub reads : (ys : List ℕ) (s : Stream) (p k m : ℕ) → Stands s ys p k → length all ≤ p + m → Reads [] s ys p k m
    unfolding run gather heard
    reads [] s p k m (after c l e h q w d) fuel =
        record {
          fields = 0;
          scan = scan-end all m (done 0 p k) (stops all p k (omega (arith, length-drop p all, ap length d))) ∙ sym (reached_past s c ∙ rw (e, q) refl);
          counts = q ∙ sym (add-zero k);
          events = refl;
        }
    reads [] s p k m (within c z a q kept) fuel =
        record {
          fields = 0;
          scan =
              here_bad m p k CUT-SHORT (inside bound s.field s.fill p k [] kept) fuel (ap field_code (kept.bytes ∙ append-nil (take s.fill s.field)) ∙ z) (λ x. omega (arith, x))
              ∙ sym (reached_tag s (λ x. omega (arith, c, x)) ∙ rw (c, a, q) refl);
          counts = q ∙ sym (add-zero k);
          events = refl;
        }
    reads (b ∷ ys) s p k m st fuel =
        let x = next s b ys p k st in
        step s (judged x.field x.fill p k) b ys p k m x.is
        (told bound x.field x.fill p k ys x.kept m fuel (λ q j i t g. reads ys (judged x.field x.fill p k) q j i t g))

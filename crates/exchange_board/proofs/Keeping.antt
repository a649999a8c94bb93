-- One slot, or two partners, at a new place: the board keeps the rule.
use Rattle.std.proofs.Common.{arith, ◌≡◌, inl, inr, ℕ, ◌+◌, ◌*◌, ◌<◌, ◌≤◌, Bool, false, cond, List, length, get_or, set, Option, Some, None, Global, refl, sym, ap, ap₂, ◌∙◌, subst}
use Rattle.std.specs.Prelude.{is_some, ◌==◌, IfSome, Box}
use Rattle.std.specs.Arc.{arc_value}
use Rattle.std.proofs.lemmas.Bool.{ne_eqb, false≢true}
use Rattle.std.proofs.lemmas.Bool.Decides.{eqb_tells}
use Rattle.std.proofs.lemmas.List.{map-set, length-map, length-set, get_or-set_other, get_or-map}
use Rattle.scalar_rule.specs.Ragged.{ready, generators}
use Rattle.scalar_rule.specs.Positions.{sum_below}
use Rattle.scalar_rule.specs.declared.sample.PlainSlot.{PlainSlot}
use Rattle.scalar_rule.specs.declared.sample.Record.{Record}
use Rattle.scalar_rule.proofs.Extremes.{sum-one}
use Rattle.plane_sweep.specs.Packed.{part_slot, part_pair, FitsDuo, PermutesAt}
use Rattle.exchange_board.specs.declared.origin.Origin.{Origin}
use Rattle.slot_steps.specs.declared.totals.Totals.{Totals}
use Rattle.exchange_board.specs.declared.home.Home.{Home}
use Rattle.exchange_board.specs.declared.board.Slot.{Slot}
use Rattle.exchange_board.specs.declared.board.Board.TheInside as board
use Rattle.exchange_board.specs.JobKeeps.{RestsAt}
use Rattle.exchange_board.specs.Views.{Stage, BoardView, place_at, ready_at}
use Rattle.exchange_board.specs.Content.{plan_of, slots_in, starts, started, taken_before, pair_in, KeepsRows}
use Rattle.exchange_board.specs.Machine.{Ruled, epochs, phases, numbers, begun, taken}
use Rattle.exchange_board.specs.BoardKeeps.{phase_of, place_of, places_of, board_view, rule_content, AtHome, KeepsSlot, content_at, KeepsBoard}
use Rattle.exchange_board.proofs.Machines.{OneMoved, TwoMoved, taken-rule}
use Rattle.exchange_board.proofs.RowPlaces.{set-here, rows-same}
use Rattle.plane_sweep.proofs.LabelSteps.{HaveSameLabels, same-labels, permutes-kept}
use Rattle.std.proofs.lemmas.Option.{same_Some}

pub one-set : (ps : List Stage) (t : ℕ) (x : Stage) → t < length ps → OneMoved t x.epoch x.phase (epochs ps) (phases ps) (epochs (set ps t x)) (phases (set ps t x))
one-set ps t x h = λ j. elim (eqb_tells j t) [
  | inl a ↦ let z = set-here ps t j x (ready_at 0) a.1 h in inl (a.1, ap (λ (p : Stage). p.epoch) z, ap (λ (p : Stage). p.phase) z)
  | inr a ↦ let z = get_or-set_other ps t j x (ready_at 0) a.1 in inr (a.1, ap (λ (p : Stage). p.epoch) z, ap (λ (p : Stage). p.phase) z)
]

pub two-set : (ps : List Stage) (t u e : ℕ) → t < length ps → u < length ps
    → TwoMoved t u e (epochs ps) (phases ps) (epochs (set (set ps u (ready_at e)) t (ready_at e))) (phases (set (set ps u (ready_at e)) t (ready_at e)))
two-set ps t u e h k = λ j. elim (one-set (set ps u (ready_at e)) t (ready_at e) (rw length-set h) j) [
  | inl a ↦ inl (inl a.0, a.1, a.2)
  | inr a ↦ elim (one-set ps u (ready_at e) k j) [
    | inl b ↦ inl (inr b.0, a.1 ∙ b.1, a.2 ∙ b.2)
    | inr b ↦ inr (a.0, b.0, a.1 ∙ b.1, a.2 ∙ b.2)
  ]
]

pub homes-set : (o : Origin) (ss : List Slot) (t : ℕ) (x : Slot) → t < length ss → KeepsSlot o t x
    → ((k : ℕ) (d : Slot) → k < length ss → KeepsSlot o k (get_or ss k d))
    → (k : ℕ) (d : Slot) → k < length (set ss t x) → KeepsSlot o k (get_or (set ss t x) k d)
homes-set o ss t x h here kept k d below = elim (eqb_tells k t) [
  | inl a ↦ let P : ℕ → Type 0 = λ i. KeepsSlot o i x in let Q : Slot → Type 0 = λ s. KeepsSlot o k s in
      subst Q (sym (set-here ss t k x d a.1 h)) (subst P (sym a.1) here)
  | inr a ↦ let Q : Slot → Type 0 = λ s. KeepsSlot o k s in subst Q (sym (get_or-set_other ss t k x d a.1)) (kept k d (rw length-set at below))
]

-- a slot that the view has is one of the board's
pub slot-known : (b : board.Inside) (v : BoardView) (t : ℕ) → board_view b ≡ v → t < length v.places → t < length b.slots
slot-known b v t is known = rw length-map at (rw (← is) at known)

-- a read of a slot gives the board's place there
pub place-read : (b : board.Inside) (t : ℕ) (s : Slot) → t < length b.slots → s ≡ get_or b.slots t s → place_at (places_of b) t ≡ place_of s
place-read b t s h read = get_or-map place_of b.slots t s (ready_at 0) h ∙ ap place_of (sym read)

-- the home of a slot that was read
pub taken-home : (b : board.Inside) (t : ℕ) (s : Slot) (h : Box Home Global) → KeepsBoard b → t < length b.slots → s ≡ get_or b.slots t s → s.home ≡ Some h → AtHome (arc_value b.origin) t s.epoch h.value
taken-home b t s h keeps known read some =
    let o : Origin = arc_value b.origin in
    let kept : KeepsSlot o t s = subst (λ (d : Slot). KeepsSlot o t d) (sym read) (keeps.homes t s known) in
    subst (λ (d : Option (Box Home Global)). IfSome d (λ z. AtHome o t s.epoch z.value)) some kept

-- the labels of slots at their places, where one slot keeps its labels at its new place
pub labels-one : (o : Origin) (E P E' P' : ℕ → ℕ) (t e p i : ℕ) → OneMoved t e p E P E' P'
    → HaveSameLabels (rule_content o i t e (p == 2)) (content_at o E P i t)
    → PermutesAt (slots_in o) (content_at o E P i) → PermutesAt (slots_in o) (content_at o E' P' i)
labels-one o E P E' P' t e p i moved here kept =
    permutes-kept (slots_in o) (content_at o E P i) (content_at o E' P' i) kept (λ j h. elim (moved j) [
      | inl a ↦
          let now : content_at o E' P' i j ≡ rule_content o i t e (p == 2) = ap₂ (λ x y. rule_content o i j x (y == 2)) a.1 a.2 ∙ ap (λ k. rule_content o i k e (p == 2)) a.0 in
          let was : content_at o E P i t ≡ content_at o E P i j = ap (content_at o E P i) (sym a.0) in
          let S : PlainSlot → Type 0 = λ x. HaveSameLabels x (content_at o E P i j) in
          let T : PlainSlot → Type 0 = λ x. HaveSameLabels (rule_content o i t e (p == 2)) x in
          subst S (sym now) (subst T was here)
      | inr a ↦ same-labels _ _ (ap₂ (λ x y. rule_content o i j x (y == 2)) a.1 a.2)
    ])

-- one slot x in the place of slot t, with these records and so many hand-outs left
abbrev pub one : board.Inside → ℕ → Slot → List Record → ℕ → board.Inside
one b t x rs left = record {
  origin = b.origin;
  slots = set b.slots t x;
  pairs = b.pairs;
  records = rs;
  left = left;
  duos = b.duos;
  pending = b.pending;
  places = b.places;
}

-- what holds of slot x in the place of slot t
pub record IsNew (b : board.Inside) (t : ℕ) (x : Slot) (rs : List Record) (left : ℕ) : Type 0 where
  pub known : t < length b.slots
  pub home : KeepsSlot (arc_value b.origin) t x
  pub long : length rs ≡ length b.records
  pub ruled : Ruled (slots_in (arc_value b.origin)) (arc_value b.origin).window.until (started (arc_value b.origin)) (epochs (set (places_of b) t (place_of x))) (phases (set (places_of b) t (place_of x)))
  pub pair : (i : ℕ) → t + 1 < slots_in (arc_value b.origin) → generators (plan_of (arc_value b.origin)) (starts (arc_value b.origin) i) t (epochs (places_of b) t) ≡ generators (plan_of (arc_value b.origin)) (starts (arc_value b.origin) i) t x.epoch
  pub labels : (i : ℕ) → i < 64 → HaveSameLabels (rule_content (arc_value b.origin) i t x.epoch (phase_of x.home == 2)) (content_at (arc_value b.origin) (epochs (places_of b)) (phases (places_of b)) i t)
  pub taken : taken (set (places_of b) t (place_of x)) + left ≡ taken_before (arc_value b.origin) + (arc_value b.origin).window.takes
  pub rows : KeepsRows (arc_value b.origin) (numbers (set (places_of b) t (place_of x))) rs

pub one-keeps : (b : board.Inside) (t : ℕ) (x : Slot) (rs : List Record) (left : ℕ) → KeepsBoard b → IsNew b t x rs left → KeepsBoard (one b t x rs left)
one-keeps b t x rs left keeps new =
    let o : Origin = arc_value b.origin in
    let ps : List Stage = places_of b in
    let qs : List Stage = set ps t (place_of x) in
    let places : places_of (one b t x rs left) ≡ qs = map-set place_of b.slots t x in
    let within : t < length ps = rw length-map new.known in
    let moved = one-set ps t (place_of x) within in
    let R : List Stage → Type 0 = λ l. Ruled (slots_in o) o.window.until (started o) (epochs l) (phases l) in
    let W : List Stage → Type 0 = λ l. KeepsRows o (numbers l) rs in
    let K : List Stage → Type 0 = λ l. (k i : ℕ) → k + 1 < slots_in o → part_pair (pair_in b.pairs k) ≡ generators (plan_of o) (starts o i) k (epochs l k) in
    let L : List Stage → Type 0 = λ l. (i : ℕ) → i < 64 → PermutesAt (slots_in o) (content_at o (epochs l) (phases l) i) in
    let T : List Stage → Type 0 = λ l. taken l + left ≡ taken_before o + o.window.takes in
    let pairs : K qs = λ k i h. elim (moved k) [
      | inl a ↦ keeps.pairs k i h ∙ (let P : ℕ → Type 0 = λ j. generators (plan_of o) (starts o i) j (epochs ps j) ≡ generators (plan_of o) (starts o i) j x.epoch in subst P (sym a.0) (new.pair i (subst (λ j. j + 1 < slots_in o) a.0 h)))
          ∙ ap (generators (plan_of o) (starts o i) k) (sym a.1)
      | inr a ↦ keeps.pairs k i h ∙ ap (generators (plan_of o) (starts o i) k) (sym a.1)
    ] in
    record {
      lawful = keeps.lawful;
      slots_long = length-set b.slots t x ∙ keeps.slots_long;
      pairs_long = keeps.pairs_long;
      records_long = new.long ∙ keeps.records_long;
      ruled = subst R (sym places) new.ruled;
      homes = homes-set o b.slots t x new.known new.home keeps.homes;
      pairs = subst K (sym places) pairs;
      pairs_fit = keeps.pairs_fit;
      labels = subst L (sym places) (λ i h. labels-one o (epochs ps) (phases ps) (epochs qs) (phases qs) t x.epoch (phase_of x.home) i moved (new.labels i h) (keeps.labels i h));
      taken = subst T (sym places) new.taken;
      rows = subst W (sym places) new.rows;
      duos = keeps.duos;
      pending = keeps.pending;
      stops = keeps.stops;
    }

-- the number of places
pub places-long : (b : board.Inside) → KeepsBoard b → length (places_of b) ≡ slots_in (arc_value b.origin)
places-long b keeps = length-map b.slots place_of ∙ keeps.slots_long

pub tested : (p : ℕ) → p ≡ 0 → (p == 2) ≡ false
tested p h = ne_eqb p 2 (λ z. omega arith)

pub tested-out : (p : ℕ) → p ≡ 1 → (p == 2) ≡ false
tested-out p h = ne_eqb p 2 (λ z. omega arith)

-- a slot at rest below until is handed out
pub take-keeps : (b : board.Inside) (t left : ℕ) (s : Slot) → KeepsBoard b → t < length b.slots → s ≡ get_or b.slots t s
    → phases (places_of b) t ≡ 0 → epochs (places_of b) t < (arc_value b.origin).window.until → left + 1 ≡ b.left → KeepsBoard (one b t (record { epoch = s.epoch; home = None }) b.records left)
take-keeps b t left s keeps known read is_ready below left_is =
    let o : Origin = arc_value b.origin in
    let ps : List Stage = places_of b in
    let x : Slot = record { epoch = s.epoch; home = None } in
    let long : length ps ≡ slots_in o = places-long b keeps in
    let in_range : t < slots_in o = omega (arith, known, keeps.slots_long) in
    let epoch : epochs ps t ≡ s.epoch = ap (λ (p : Stage). p.epoch) (place-read b t s known read) in
    let moved = one-set ps t (place_of x) (rw long in_range) in
    let qs : List Stage = set ps t (place_of x) in
    let E' : ℕ → ℕ = epochs qs in
    let P' : ℕ → ℕ = phases qs in
    let moved_there : OneMoved t (epochs ps t) 1 (epochs ps) (phases ps) E' P' = subst (λ m. OneMoved t m 1 (epochs ps) (phases ps) E' P') (sym epoch) moved in
    let at_t : (E' t ≡ epochs ps t) × (P' t ≡ 1) = elim (moved_there t) [ inl a ↦ (a.1, a.2) | inr a ↦ absurd (a.0 refl) ] in
    let qlong : length qs ≡ length ps = length-set ps t (place_of x) in
    let more : taken qs ≡ taken ps + 1 =
    ap (sum_below (λ j. begun (numbers qs j))) qlong
    ∙ sum-one (λ j. begun (numbers ps j)) (λ j. begun (numbers qs j)) (length ps) t (rw long in_range) (let a0 = at_t.0 in let a1 = at_t.1 in omega arith)
    (λ j other. elim (moved_there j) [ inl a ↦ absurd (other a.0) | inr a ↦ ap₂ (λ x y. begun (4 * x + y)) a.1 a.2 ]) in
    one-keeps b t x b.records left keeps (record {
      known = known;
      home = tt;
      long = refl;
      ruled = taken-rule (slots_in o) o.window.until (started o) (epochs ps) (phases ps) E' P' t keeps.ruled moved_there in_range is_ready below;
      pair = λ i h. ap (generators (plan_of o) (starts o i) t) epoch;
      labels = λ i h. same-labels _ _ (ap₂ (λ e a. rule_content o i t e a) (sym epoch) (sym (tested (phases ps t) is_ready)));
      taken = omega (arith, more, keeps.taken);
      rows = rows-same o (numbers ps) (numbers qs) b.records
          (λ j. elim (moved_there j) [ inl a ↦ let y : epochs ps j ≡ epochs ps t = ap (epochs ps) a.0 in let z : phases ps j ≡ phases ps t = ap (phases ps) a.0 in omega arith | inr a ↦ omega arith ])
          keeps.rows;
    })

abbrev pub waiting : Bool → ℕ
waiting a = cond a 2 0

option-tells : (h : Option Totals) → waiting (is_some h) ≡ 0 → is_some h ≡ false
option-tells None h = refl
option-tells (Some z) h = absurd (omega arith)

-- the home of a slot at rest
pub ready-home : (h : Option (Box Home Global)) → phase_of h ≡ 0 → (m : Box Home Global) × (h ≡ Some m) × (is_some m.value.totals ≡ false)
ready-home None h = absurd (omega arith)
ready-home (Some m) h = (m, refl, option-tells m.value.totals h)

none-told : (x : Option Totals) → is_some x ≡ false → x ≡ None
none-told None h = refl
none-told (Some z) h = absurd (false≢true (sym h))

-- the content that a slot at rest is handed out with
pub rested : (b : board.Inside) (t : ℕ) (s : Slot) (h : Box Home Global) → KeepsBoard b → t < length b.slots → s ≡ get_or b.slots t s → phases (places_of b) t ≡ 0 → s.home ≡ Some h
    → RestsAt t s.epoch h.value
rested b t s h keeps known read is_ready some =
    let o : Origin = arc_value b.origin in
    let phase : phase_of s.home ≡ 0 = sym (ap (λ (p : Stage). p.phase) (place-read b t s known read)) ∙ is_ready in
    let m = ready-home s.home phase in
    let same : m.0 ≡ h = same_Some _ _ (sym m.1 ∙ some) in
    let none : is_some h.value.totals ≡ false = ap (λ (z : Box Home Global). is_some z.value.totals) (sym same) ∙ m.2 in
    let home = taken-home b t s h keeps known read some in
    let in_range : t < slots_in o = omega (arith, known, keeps.slots_long) in
    let at : epochs (places_of b) t ≡ s.epoch = ap (λ (p : Stage). p.epoch) (place-read b t s known read) in
    let later : started o t ≤ 4 * s.epoch + 1 = omega (arith, keeps.ruled.since t in_range) in
    let K : Origin → Type 0 = λ x. t < slots_in x in
    let E : Origin → Type 0 = λ x. 1 ≤ x.window.every in
    let L : Origin → Type 0 = λ x. started x t ≤ 4 * s.epoch + 1 in
    let F : Origin → Type 0 = λ x. FitsDuo (plan_of x).size h.value.duo in
    let R : Origin → Type 0 = λ x. (i : ℕ) → i < 64 → part_slot (plan_of x).size i h.value.duo ≡ ready (plan_of x) (starts x i) s.epoch t in
    record {
      known = subst K (sym home.same) in_range;
      every = subst E (sym home.same) keeps.lawful.base.some_every;
      later = subst L (sym home.same) later;
      fits = subst F (sym home.same) home.fits;
      right = subst R (sym home.same) (λ i small. home.right i small ∙ ap (rule_content o i t s.epoch) none);
      unsummed = none-told h.value.totals none;
    }

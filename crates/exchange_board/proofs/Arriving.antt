-- What a hand-back keeps, kind by kind.
use Rattle.std.proofs.Common.{arith, ◌≡◌, inl, inr, ℕ, ◌+◌, ◌*◌, ◌<◌, ◌≤◌, ◌≢◌, Bool, true, false, cond, List, length, map, set, Option, Some, None, refl, sym, ap, ap₂, ◌∙◌, subst}
use Rattle.std.specs.Prelude.{◌==◌, IfSome, is_some}
use Rattle.std.specs.Box.{with_value}
use Rattle.std.specs.Arc.{arc_value}
use Rattle.std.proofs.lemmas.Bool.{false≢true, eq-eqb}
use Rattle.std.proofs.lemmas.List.{map-set, length-map, length-set}
use Rattle.scalar_rule.specs.Epoch.{has_turn, has_partner, partner, record_of}
use Rattle.scalar_rule.specs.Ragged.{ready, arrived, generators}
use Rattle.scalar_rule.specs.Positions.{sum_below}
use Rattle.scalar_rule.specs.declared.sample.Record.{Record}
use Rattle.scalar_rule.proofs.Extremes.{sum-same}
use Rattle.scalar_rule.proofs.SlotPartners.{sides, alone-low}
use Rattle.scalar_rule.proofs.UnevenContents.{generators-idle, ready-alone, arrived-swept}
use Rattle.plane_sweep.specs.Packed.{part_slot, FitsDuo}
use Rattle.plane_sweep.specs.declared.replica.Duo.{Duo}
use Rattle.exchange_board.specs.declared.origin.Origin.{Origin}
use Rattle.slot_steps.specs.declared.totals.Totals.{Totals}
use Rattle.exchange_board.specs.declared.board.Slot.{Slot}
use Rattle.exchange_board.specs.declared.home.Home.{Home}
use Rattle.exchange_board.specs.declared.board.Board.TheInside as board
use Rattle.exchange_board.specs.declared.job.Swept.TheInside as swept
use Rattle.slot_steps.specs.Totals.{AreTotals}
use Rattle.exchange_board.specs.Views.{Stage, BoardView, JobView, place_at, out_at, arrived_at}
use Rattle.exchange_board.specs.Content.{plan_of, slots_in, starts, started, floor_in, record_at, rule_record}
use Rattle.exchange_board.specs.Machine.{epochs, phases, numbers, begun, recorded, taken, met}
use Rattle.exchange_board.specs.JobKeeps.{swept_view, AreRecords, KeepsSwept}
use Rattle.exchange_board.specs.Meeting.{RecordsAfter}
use Rattle.exchange_board.specs.BoardKeeps.{place_of, places_of, board_view, rule_content, KeepsSlot, content_at, KeepsBoard}
use Rattle.exchange_board.proofs.Machines.{OneMoved, alone-rule, wait-rule}
use Rattle.exchange_board.proofs.Origins.{floor-before}
use Rattle.exchange_board.proofs.RowPlaces.{Recorded, rows-written, rule-measured}
use Rattle.plane_sweep.proofs.LabelSteps.{HaveSameLabels, same-labels, labels-then, swept-labels}
use Rattle.exchange_board.proofs.Keeping.{one, one-keeps, one-set, places-long, tested-out}

-- a slot that comes back, with the board that it left
pub record Coming (b : board.Inside) (s : swept.Inside) : Type 0 where
  pub keeps : KeepsBoard b
  pub swept : KeepsSwept s
  pub same : arc_value s.home.value.share ≡ arc_value b.origin
  pub known : s.slot < length (places_of b)
  pub out : place_at (places_of b) s.slot ≡ out_at s.epoch

-- it is what a hand-back asks for
pub coming-of : (b : board.Inside) (s : swept.Inside) (v : BoardView) (w : JobView) → KeepsBoard b → KeepsSwept s → board_view b ≡ v → swept_view s ≡ w
    → w.origin ≡ v.origin → w.slot < length v.places → place_at v.places w.slot ≡ out_at w.epoch → Coming b s
coming-of b s v w keeps swept board_is swept_is same known out = record {
  keeps = keeps;
  swept = swept;
  same = rw (← board_is, ← swept_is) at same;
  known = rw (← board_is, ← swept_is) at known;
  out = rw (← board_is, ← swept_is) at out;
}

pub record Known (b : board.Inside) (s : swept.Inside) : Type 0 where
  pub known : s.slot < length b.slots
  pub in_range : s.slot < slots_in (arc_value b.origin)
  pub epoch : epochs (places_of b) s.slot ≡ s.epoch
  pub phase : phases (places_of b) s.slot ≡ 1
  pub below : s.epoch < (arc_value b.origin).window.until
  pub later : started (arc_value b.origin) s.slot ≤ 4 * s.epoch + 1
  pub from : floor_in (arc_value b.origin) ≤ s.epoch
  pub fits : FitsDuo (plan_of (arc_value b.origin)).size s.home.value.duo
  pub right : (i : ℕ) → i < 64 → part_slot (plan_of (arc_value b.origin)).size i s.home.value.duo ≡ arrived (plan_of (arc_value b.origin)) (starts (arc_value b.origin) i) s.epoch s.slot
  pub totals : IfSome s.home.value.totals (AreTotals (plan_of (arc_value b.origin)) s.home.value.duo)
  pub summed : has_partner (slots_in (arc_value b.origin)) s.slot s.epoch ≡ true → is_some s.home.value.totals ≡ true
  pub records : AreRecords (arc_value b.origin) s.epoch s.home.value.duo s.home.value.page

pub known-of : (b : board.Inside) (s : swept.Inside) → Coming b s → Known b s
known-of b s c =
    let o : Origin = arc_value b.origin in
    let h : Home = s.home.value in
    let known : s.slot < length b.slots = rw length-map at c.known in
    let in_range : s.slot < slots_in o = omega (arith, known, c.keeps.slots_long) in
    let epoch : epochs (places_of b) s.slot ≡ s.epoch = ap (λ (p : Stage). p.epoch) c.out in
    let phase : phases (places_of b) s.slot ≡ 1 = ap (λ (p : Stage). p.phase) c.out in
    let working = c.keeps.ruled.working s.slot in_range (omega arith) in
    let below : s.epoch < o.window.until = omega arith in
    let L : Origin → Type 0 = λ x. started x s.slot ≤ 4 * s.epoch + 1 in
    let R : Origin → Type 0 = λ x. (i : ℕ) → i < 64 → part_slot (plan_of x).size i h.duo ≡ arrived (plan_of x) (starts x i) s.epoch s.slot in
    let F : Origin → Type 0 = λ x. FitsDuo (plan_of x).size h.duo in
    let T : Origin → Type 0 = λ x. IfSome h.totals (AreTotals (plan_of x) h.duo) in
    let S : Origin → Type 0 = λ x. has_partner (slots_in x) s.slot s.epoch ≡ true → is_some h.totals ≡ true in
    let A : Origin → Type 0 = λ x. AreRecords x s.epoch h.duo h.page in
    let later = subst L c.same c.swept.later in
    record {
      known = known;
      in_range = in_range;
      epoch = epoch;
      phase = phase;
      below = below;
      later = later;
      from = floor-before o s.slot s.epoch c.keeps.lawful in_range later;
      fits = subst F c.same c.swept.fits;
      right = subst R c.same c.swept.right;
      totals = subst T c.same c.swept.totals;
      summed = subst S c.same c.swept.summed;
      records = subst A c.same c.swept.records;
    }

-- the records that a hand-back writes
abbrev pub Written : board.Inside → swept.Inside → List Record → Type 0
Written b s rs =
    RecordsAfter (arc_value b.origin) s.slot s.epoch (λ i. record_of (plan_of (arc_value b.origin)) i (part_slot (plan_of (arc_value b.origin)).size i s.home.value.duo)) b.records rs

-- records that were made before are the rule's
pub records-made : (o : Origin) (t e : ℕ) (duo : Duo) (made old new : List Record) → o.window.samples ≤ 64 → AreRecords o e duo made → RecordsAfter o t e (λ i. record_at made i) old new
    → RecordsAfter o t e (λ i. record_of (plan_of o) i (part_slot (plan_of o).size i duo)) old new
records-made o t e duo made old new few are after =
    record { sized = after.sized; written = λ on i h. after.written on i h ∙ are on i (omega arith); others = after.others }

pub written-of : (b : board.Inside) (s : swept.Inside) (o : Origin) (rs : List Record) → Coming b s → o ≡ arc_value b.origin
    → RecordsAfter o s.slot s.epoch (λ i. record_at s.home.value.page i) b.records rs → Written b s rs
written-of b s o rs c is after =
    let A : Origin → Type 0 = λ x. RecordsAfter x s.slot s.epoch (λ i. record_at s.home.value.page i) b.records rs in
    records-made (arc_value b.origin) s.slot s.epoch s.home.value.duo s.home.value.page b.records rs c.keeps.lawful.base.few_samples (known-of b s c).records (subst A is after)

-- they are of an epoch that the board records
pub from-known : (b : board.Inside) (s : swept.Inside) (o : Origin) → Coming b s → o ≡ arc_value b.origin → floor_in o ≤ s.epoch
from-known b s o c is = subst (λ (x : Origin). floor_in x ≤ s.epoch) (sym is) (known-of b s c).from

pub below-known : (b : board.Inside) (s : swept.Inside) (o : Origin) → Coming b s → o ≡ arc_value b.origin → s.epoch < o.window.until
below-known b s o c is = subst (λ (x : Origin). s.epoch < x.window.until) (sym is) (known-of b s c).below

pub value-is : (b : board.Inside) (s : swept.Inside) → Coming b s → Known b s → (i : ℕ) → i < (arc_value b.origin).window.samples
    → record_of (plan_of (arc_value b.origin)) i (part_slot (plan_of (arc_value b.origin)).size i s.home.value.duo) ≡ rule_record (arc_value b.origin) s.epoch i s.slot
value-is b s c f i h =
    let o : Origin = arc_value b.origin in
    ap (record_of (plan_of o) i) (f.right i (omega (arith, c.keeps.lawful.base.few_samples)))
    ∙ sym (rule-measured o s.epoch i s.slot f.later)

-- t has recorded e, where it moves from Out at e to a place that has
moved-recorded : (E P E' P' : ℕ → ℕ) (t e x p : ℕ) → OneMoved t x p E P E' P' → E t ≡ e → P t ≡ 1 → recorded (4 * x + p) ≡ e + 1
    → Recorded t e (λ j. 4 * E j + P j) (λ j. 4 * E' j + P' j)
moved-recorded E P E' P' t e x p moved epoch phase is j = elim (moved j) [
  | inl a ↦ let y : E j ≡ E t = ap E a.0 in let z : P j ≡ P t = ap P a.0 in inl (a.0, omega arith, omega arith)
  | inr a ↦ inr (a.0, omega arith)
]

-- as many hand-outs lead to places at which each slot has begun as many epochs
pub taken-same : (ps qs : List Stage) → length qs ≡ length ps → ((j : ℕ) → begun (numbers qs j) ≡ begun (numbers ps j)) → taken qs ≡ taken ps
taken-same ps qs long same =
    ap (sum_below (λ j. begun (numbers qs j))) long ∙ sum-same (λ j. begun (numbers qs j)) (λ j. begun (numbers ps j)) (length ps) (λ j h. same j)

-- a slot that came back, with these sums
abbrev pub home_of : swept.Inside → ℕ → Option Totals → Slot
home_of s e totals = record { epoch = e; home = Some (with_value s.home (record s.home.value { totals = totals })) }

-- a slot that waits is where it waits
pub waiting-place : (s : swept.Inside) → is_some s.home.value.totals ≡ true → place_of (record { epoch = s.epoch; home = Some s.home }) ≡ arrived_at s.epoch
waiting-place s waits = ap (λ (a : Bool). let p : Stage = record { epoch = s.epoch; phase = cond a 2 0 } in p) waits

pub some-totals : (x : Option Totals) → is_some x ≡ true → (z : Totals) × (x ≡ Some z)
some-totals None h = absurd (false≢true h)
some-totals (Some z) h = (z, refl)

if-some : (x : Option Totals) (z : Totals) (P : Totals → Type 0) → x ≡ Some z → IfSome x P → P z
if-some x z P is p = subst (λ y. IfSome y P) is p

-- the labels of a slot that was swept are those at rest
pub came-labels : (b : board.Inside) (s : swept.Inside) → Known b s → (i : ℕ) → HaveSameLabels (arrived (plan_of (arc_value b.origin)) (starts (arc_value b.origin) i) s.epoch s.slot) (content_at (arc_value b.origin) (epochs (places_of b)) (phases (places_of b)) i s.slot)
came-labels b s f i =
    let o : Origin = arc_value b.origin in
    let ps : List Stage = places_of b in
    let was : content_at o (epochs ps) (phases ps) i s.slot ≡ ready (plan_of o) (starts o i) s.epoch s.slot =
    ap₂ (λ e a. rule_content o i s.slot e a) f.epoch (tested-out (phases ps s.slot) f.phase) in
    labels-then _ _ _ (same-labels _ _ (arrived-swept (plan_of o) (starts o i) s.epoch s.slot f.later))
    (labels-then _ _ _ (swept-labels (plan_of o) i s.slot (ready (plan_of o) (starts o i) s.epoch s.slot)) (same-labels _ _ (sym was)))

pub alone-keeps : (b : board.Inside) (s : swept.Inside) (rs : List Record) → Coming b s → Written b s rs
    → has_partner (length (places_of b)) s.slot s.epoch ≡ false → KeepsBoard (one b s.slot (home_of s (s.epoch + 1) None) rs b.left)
alone-keeps b s rs c written alone =
    let o : Origin = arc_value b.origin in
    let ps : List Stage = places_of b in
    let t : ℕ = s.slot in
    let e : ℕ = s.epoch in
    let x : Slot = home_of s (e + 1) None in
    let f = known-of b s c in
    let long : length ps ≡ slots_in o = places-long b c.keeps in
    let alone_here : has_partner (slots_in o) t e ≡ false = subst (λ m. has_partner m t e ≡ false) long alone in
    let alone_there : has_partner (slots_in o) t (epochs ps t) ≡ false = subst (λ m. has_partner (slots_in o) t m ≡ false) (sym f.epoch) alone_here in
    let moved = one-set ps t (place_of x) (rw long f.in_range) in
    let qs : List Stage = set ps t (place_of x) in
    let E' : ℕ → ℕ = epochs qs in
    let P' : ℕ → ℕ = phases qs in
    let moved_there : OneMoved t (epochs ps t + 1) 0 (epochs ps) (phases ps) E' P' = subst (λ m. OneMoved t (m + 1) 0 (epochs ps) (phases ps) E' P') (sym f.epoch) moved in
    let on : (i : ℕ) → ready (plan_of o) (starts o i) (e + 1) t ≡ arrived (plan_of o) (starts o i) e t = λ i. ready-alone (plan_of o) (starts o i) e t (omega (arith, f.later)) alone_here in
    let home : KeepsSlot o t x = record { same = c.same; fits = f.fits; right = λ i h. f.right i h ∙ sym (on i); totals = λ sums is. absurd (let z : None ≡ Some sums = is in cc) } in
    let idle : t + 1 < slots_in o → has_turn t e ≡ false = λ h. elim (sides t e) [ inl l ↦ absurd (let z = alone-low (slots_in o) t e l alone_here in omega arith) | inr l ↦ l.low ] in
    let done_is : recorded (4 * (e + 1) + 0) ≡ e + 1 = omega arith in
    one-keeps b t x rs b.left c.keeps (record {
      known = f.known;
      home = home;
      long = written.sized;
      ruled = alone-rule (slots_in o) o.window.until (started o) (epochs ps) (phases ps) E' P' t c.keeps.ruled moved_there f.in_range f.phase alone_there;
      pair = λ i h. ap (generators (plan_of o) (starts o i) t) f.epoch ∙ sym (generators-idle (plan_of o) (starts o i) t e (idle h));
      labels = λ i h. labels-then _ _ _ (same-labels _ _ (on i)) (came-labels b s f i);
      taken = let z = taken-same ps qs (length-set ps t (place_of x)) (λ j. elim (moved j) [
        | inl a ↦ let y : epochs ps j ≡ e = ap (epochs ps) a.0 ∙ f.epoch in let w : phases ps j ≡ 1 = ap (phases ps) a.0 ∙ f.phase in let a1 = a.1 in let a2 = a.2 in omega arith
        | inr a ↦ ap₂ (λ u v. begun (4 * u + v)) a.1 a.2
      ]) in omega (arith, z, c.keeps.taken);
      rows = rows-written o t e _ b.records rs (numbers ps) (numbers qs) c.keeps.lawful.base.some_every f.in_range f.from written
          (moved-recorded (epochs ps) (phases ps) E' P' t e (e + 1) 0 moved f.epoch f.phase done_is) (value-is b s c f) c.keeps.rows;
    })

wait-with : (b : board.Inside) (s : swept.Inside) (rs : List Record) (totals : Totals) → Coming b s → Written b s rs → AreTotals (plan_of (arc_value b.origin)) s.home.value.duo totals
    → has_partner (length (places_of b)) s.slot s.epoch ≡ true → (phases (places_of b) (partner s.slot s.epoch) ≡ 2 → epochs (places_of b) (partner s.slot s.epoch) ≢ s.epoch)
    → KeepsBoard (one b s.slot (home_of s s.epoch (Some totals)) rs b.left)
wait-with b s rs totals c written counted has unmet =
    let o : Origin = arc_value b.origin in
    let ps : List Stage = places_of b in
    let t : ℕ = s.slot in
    let e : ℕ = s.epoch in
    let x : Slot = home_of s e (Some totals) in
    let f = known-of b s c in
    let long : length ps ≡ slots_in o = places-long b c.keeps in
    let has_here : has_partner (slots_in o) t e ≡ true = subst (λ m. has_partner m t e ≡ true) long has in
    let has_there : has_partner (slots_in o) t (epochs ps t) ≡ true = subst (λ m. has_partner (slots_in o) t m ≡ true) (sym f.epoch) has_here in
    let U : ℕ → Type 0 = λ m. phases ps (partner t m) ≡ 2 → epochs ps (partner t m) ≢ m in
    let unmet_there : U (epochs ps t) = subst U (sym f.epoch) unmet in
    let moved = one-set ps t (place_of x) (rw long f.in_range) in
    let qs : List Stage = set ps t (place_of x) in
    let E' : ℕ → ℕ = epochs qs in
    let P' : ℕ → ℕ = phases qs in
    let moved_there : OneMoved t (epochs ps t) 2 (epochs ps) (phases ps) E' P' = subst (λ m. OneMoved t m 2 (epochs ps) (phases ps) E' P') (sym f.epoch) moved in
    let T : Totals → Type 0 = λ z. AreTotals (plan_of o) s.home.value.duo z in
    let home : KeepsSlot o t x = record { same = c.same; fits = f.fits; right = f.right; totals = λ kept is. let z : totals ≡ kept = (let w : Some totals ≡ Some kept = is in cc) in subst T z counted } in
    let done_is : recorded (4 * e + 2) ≡ e + 1 = omega arith in
    one-keeps b t x rs b.left c.keeps (record {
      known = f.known;
      home = home;
      long = written.sized;
      ruled = wait-rule (slots_in o) o.window.until (started o) (epochs ps) (phases ps) E' P' t c.keeps.ruled moved_there f.in_range f.phase has_there unmet_there;
      pair = λ i h. ap (generators (plan_of o) (starts o i) t) f.epoch;
      labels = λ i h. came-labels b s f i;
      taken = let z = taken-same ps qs (length-set ps t (place_of x)) (λ j. elim (moved j) [
        | inl a ↦ let y : epochs ps j ≡ e = ap (epochs ps) a.0 ∙ f.epoch in let w : phases ps j ≡ 1 = ap (phases ps) a.0 ∙ f.phase in let a1 = a.1 in let a2 = a.2 in omega arith
        | inr a ↦ ap₂ (λ u v. begun (4 * u + v)) a.1 a.2
      ]) in omega (arith, z, c.keeps.taken);
      rows = rows-written o t e _ b.records rs (numbers ps) (numbers qs) c.keeps.lawful.base.some_every f.in_range f.from written
          (moved-recorded (epochs ps) (phases ps) E' P' t e e 2 moved f.epoch f.phase done_is) (value-is b s c f) c.keeps.rows;
    })

pub wait-keeps : (b : board.Inside) (s : swept.Inside) (rs : List Record) → Coming b s → Written b s rs
    → has_partner (length (places_of b)) s.slot s.epoch ≡ true → (phases (places_of b) (partner s.slot s.epoch) ≡ 2 → epochs (places_of b) (partner s.slot s.epoch) ≢ s.epoch)
    → KeepsBoard (one b s.slot (record { epoch = s.epoch; home = Some s.home }) rs b.left)
wait-keeps b s rs c written has unmet =
    let o : Origin = arc_value b.origin in
    let f = known-of b s c in
    let totals = some-totals s.home.value.totals (f.summed (subst (λ m. has_partner m s.slot s.epoch ≡ true) (places-long b c.keeps) has)) in
    let K : Option Totals → Type 0 = λ z. KeepsBoard (one b s.slot (home_of s s.epoch z) rs b.left) in
    subst K (sym totals.1) (wait-with b s rs totals.0 c written (if-some s.home.value.totals totals.0 (AreTotals (plan_of o) s.home.value.duo) totals.1 f.totals) has unmet)

-- the view once it waits
pub wait-view : (b : board.Inside) (s : swept.Inside) → Coming b s → has_partner (length (places_of b)) s.slot s.epoch ≡ true
    → map place_of (set b.slots s.slot (record { epoch = s.epoch; home = Some s.home })) ≡ set (places_of b) s.slot (arrived_at s.epoch)
wait-view b s c has =
    let waits = (known-of b s c).summed (subst (λ m. has_partner m s.slot s.epoch ≡ true) (places-long b c.keeps) has) in
    map-set place_of b.slots s.slot (record { epoch = s.epoch; home = Some s.home }) ∙ ap (λ (p : Stage). set (places_of b) s.slot p) (waiting-place s waits)

-- where its partner does not wait for it
pub unmet-not : (ps : List Stage) (t e : ℕ) → met ps t e ≡ false → phases ps (partner t e) ≡ 2 → epochs ps (partner t e) ≢ e
unmet-not ps t e unmet phase same = let a : (phases ps (partner t e) == 2) ≡ true = eq-eqb _ _ phase in let b : (epochs ps (partner t e) == e) ≡ true = eq-eqb _ _ same in
    let z : met ps t e ≡ true = rw (a, b) refl in absurd (false≢true (sym unmet ∙ z))

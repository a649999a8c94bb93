-- A run that was not asked to stop ends with every slot at rest at until.
use Rattle.std.proofs.Common.{arith, ◌≡◌, inl, inr, ℕ, zero, suc, ◌+◌, ◌*◌, ◌<◌, ◌≤◌, Bool, true, false, List, [], length, map, take, refl, sym, ap, ap₂, ◌∙◌, subst}
use Rattle.std.proofs.Math.Nat.{mul-le-mul_right}
use native.Mathlib.Nat.{suc-mul}
use Rattle.std.proofs.lemmas.Bool.{cases_lt}
use Rattle.std.proofs.lemmas.List.{length-map, get_or-map, take_all}
use Rattle.spin_model.specs.Limits.{every_take}
use Rattle.spin_model.specs.Steps.{table}
use Rattle.spin_model.proofs.Tables.{table-of_items}
use Rattle.scalar_rule.specs.Plan.{Plan, slots_of, pairs_of}
use Rattle.scalar_rule.specs.Positions.{position_in, done, floor_of, sum_below, content, uneven_records}
use Rattle.scalar_rule.specs.Ragged.{Position, UnevenState, ready, generators, all_ready}
use Rattle.scalar_rule.specs.declared.plain_copy.PlainCopy.{PlainCopy}
use Rattle.scalar_rule.specs.declared.sample.PlainSlot.{PlainSlot}
use Rattle.scalar_rule.specs.declared.sample.PlainPair.{PlainPair}
use Rattle.scalar_rule.specs.declared.sample.Sample.{Sample}
use Rattle.scalar_rule.specs.Laws.{level_start}
use Rattle.scalar_rule.proofs.Extremes.{least-some, sum-most}
use Rattle.plane_sweep.specs.Packed.{part, part_slot, part_pair, StandFits}
use Rattle.plane_sweep.specs.Uneven.{place_at, position_of, positions_of, uneven_part, level_stand}
use Rattle.plane_sweep.specs.declared.stand.Stand.{Stand}
use Rattle.plane_sweep.specs.declared.uneven.Place.{Place}
use Rattle.plane_sweep.specs.declared.uneven.RaggedStand.{RaggedStand}
use Rattle.plane_sweep.proofs.SampleParts.{part-fits}
use Rattle.plane_sweep.proofs.LevelStands.{level-part, level-floor, position-at}
use Rattle.exchange_board.specs.declared.origin.Origin.{Origin}
use Rattle.exchange_board.specs.Answers.{start_place, stages_of}
use Rattle.exchange_board.specs.Content as board
use Rattle.exchange_board.specs.Content.{plan_of, slots_in, started, row_total, rows_before, floor_in, IsLawfulOrigin}
use Rattle.exchange_board.specs.Machine.{epochs, phases, numbers, begun, taken, AllEnded}
use Rattle.exchange_board.specs.Stops.{IsStop}
use Rattle.exchange_board.specs.Views.{Stage, RaggedEndedView}
use Rattle.scalar_rule.proofs.LevelRuns.{all_ready-serial, level-records}
use Rattle.exchange_board.proofs.Machines.{no-dead-end}
use Rattle.exchange_board.proofs.Cells.{floor-deep}
use Rattle.scalar_rule.proofs.RecordedEpochs.{quotient-upto}
use Rattle.exchange_board.proofs.Starting.{begun-ruled}
use Rattle.glass_engine.specs.Laws.{stand_at, IsWhole, IsSerial}
use Rattle.glass_engine.specs.Runs.{RunView, starts, IsEnd}
use Rattle.glass_engine.proofs.Steps.{start-none}

-- numbers whose sum is as great as it can be are all as great as they can be
sum-full : (f : ℕ → ℕ) (n c : ℕ) → ((t : ℕ) → t < n → f t ≤ c) → n * c ≤ sum_below f n → (t : ℕ) → t < n → f t ≡ c
unfolding sum_below
sum-full f zero c most full t h = omega arith
sum-full f (suc n) c most full t h =
    let most_n : (t : ℕ) → t < n → f t ≤ c = λ t h. most t (omega arith) in
    let before = sum-most f n c most_n in
    let last = most n (omega arith) in
    let more : suc n * c ≡ n * c + c = suc-mul n c in
    elim (cases_lt t n) [
      | inl less ↦ sum-full f n c most_n (omega arith) t less
      | inr not ↦ let is : t ≡ n = omega arith in let at : f t ≡ f n = ap f is in omega arith
    ]

-- the origin of a run that goes on from a stop
abbrev pub later : Origin → RaggedStand → Origin
later o stand = record { plan = o.plan; base = stand; window = o.window }

pub later-lawful : (o : Origin) (d : RaggedEndedView) → IsLawfulOrigin o → IsStop o d → IsLawfulOrigin (later o d.stand)
later-lawful o d l s =
    let lower = quotient-upto o.window.every (floor_in o) (floor_of (positions_of d.stand)) (omega (arith, s.fits.some_every)) s.from in
    let a : rows_before (later o d.stand) o.window.until ≤ rows_before o o.window.until = omega arith in
    let b = mul-le-mul_right o.window.samples a in
    let c = mul-le-mul_right (slots_in o) b in
    record {
      plan = l.plan;
      base = s.fits;
      until = l.until;
      every = l.every;
      takes = l.takes;
      reach = s.reach;
      rows = let z = l.rows in omega arith;
    }

-- where each slot has begun all epochs it is at rest at until
pub full-ended : (o : Origin) (d : RaggedEndedView) → IsLawfulOrigin o → IsStop o d
    → ((t : ℕ) → t < slots_in o → begun (numbers (stages_of d.stand) t) ≡ o.window.until) → AllEnded o.window.until (stages_of d.stand)
full-ended o d l s each =
    let ps = stages_of d.stand in
    let n = slots_in o in
    let r = begun-ruled (later o d.stand) (later-lawful o d l s) in
    let long : length ps ≡ n = length-map d.stand.places start_place ∙ s.fits.places in
    let ended = no-dead-end n o.window.until (started (later o d.stand)) (epochs ps) (phases ps) r
    (λ t h out. start-none d.stand.places t (subst (λ k. t < k) (sym long) h) out)
    (λ t h rests. let z = each t h in omega arith) in
    λ t h. ended t (subst (λ k. t < k) long h)

whole-ended : (run : RunView) (d : RaggedEndedView) → run.takes ≡ every_take → IsEnd run d → AllEnded run.until (stages_of d.stand)
whole-ended run d takes e = elim e.finished [
  | inl all ↦ all
  | inr spent ↦
      let o = d.origin in
      let ps = stages_of d.stand in
      let n = slots_in o in
      let until = o.window.until in
      let r = begun-ruled (later o d.stand) (later-lawful o d e.lawful e.stop) in
      let long : length ps ≡ n = length-map d.stand.places start_place ∙ e.stop.fits.places in
      let most : (t : ℕ) → t < n → begun (numbers ps t) ≤ until = λ t h.
      let a = r.below t h in let b = r.phased t h in
      elim (cases_lt 0 (phases ps t)) [ inl w ↦ let c = r.working t h w in omega arith | inr z ↦ omega arith ] in
      let sum : taken ps ≡ sum_below (λ t. begun (numbers ps t)) n = ap (sum_below (λ t. begun (numbers ps t))) long in
      let few : n ≤ 32 = e.lawful.plan.rules.few in
      let small = e.lawful.until in
      let product : n * until ≤ 32 * until = mul-le-mul_right until few in
      let each = sum-full (λ t. begun (numbers ps t)) n until most (omega arith) in
      let ended = full-ended o d e.lawful e.stop each in
      λ t h. let z = ended t h in (z.0, z.1 ∙ e.origin.until_is)
]

-- the position of a slot at rest
rest-by : (e until : ℕ) (a : Bool) → (let p : Place = record { epoch = e; arrived = a } in (start_place p).phase ≡ 0 → (start_place p).epoch ≡ until
    → (let q : Position = record { epoch = until; waits = false } in position_of p ≡ q))
rest-by e until true phase epoch = absurd (omega arith)
rest-by e until false phase epoch = let make : ℕ → Position = λ k. record { epoch = k; waits = false } in ap make epoch

pub rest-at : (places : List Place) (t until : ℕ) → t < length places → (phases (map start_place places) t ≡ 0) × (epochs (map start_place places) t ≡ until)
    → (let q : Position = record { epoch = until; waits = false } in position_in (map position_of places) t ≡ q)
rest-at places t until h ended =
    let p = place_at places t in
    let at = get_or-map start_place places t _ _ h in
    position-at places t h ∙ rest-by p.epoch until p.arrived (sym (ap (λ (s : Stage). s.phase) at) ∙ ended.0) (sym (ap (λ (s : Stage). s.epoch) at) ∙ ended.1)

whole-part : (o : Origin) (d : RaggedEndedView) (b : ℕ) → IsStop o d → AllEnded o.window.until (stages_of d.stand) → b < 64
    → part (plan_of o).size b (stand_at o.window.until d.stand) ≡ all_ready (plan_of o) (board.starts o b) o.window.until
unfolding part
whole-part o d b s ended small =
    let p = plan_of o in
    let until = o.window.until in
    let start = board.starts o b in
    let reached = s.reached b small in
    let there : Position = record { epoch = until; waits = false } in
    let empty : PlainCopy = record { spins = []; wheels = []; replica = 0 } in
    let none : PlainSlot = record { first = empty; second = empty } in
    let rest : (t : ℕ) → t < slots_of p → position_in (positions_of d.stand) t ≡ there = λ t h.
    rest-at d.stand.places t until (omega (arith, s.fits.places)) (ended t (subst (λ k. t < k) (sym (length-map d.stand.places start_place ∙ s.fits.places)) h)) in
    let slots : map (part_slot p.size b) d.stand.slots ≡ table (λ t. ready p start until t) (slots_of p) =
    table-of_items (λ t. ready p start until t) (slots_of p) none (map (part_slot p.size b) d.stand.slots) (length-map d.stand.slots (part_slot p.size b) ∙ s.fits.slots)
    (λ t h. reached.slots t h ∙ ap (λ (q : Position). content p start t q.epoch q.waits) (rest t h)) in
    let pairs : map part_pair d.stand.pairs ≡ table (λ k. generators p start k until) (pairs_of p) =
    table-of_items (λ k. generators p start k until) (pairs_of p) (record { first = []; second = [] }) (map part_pair d.stand.pairs) (length-map d.stand.pairs part_pair ∙ s.fits.pairs)
    (λ k h. reached.pairs k (omega arith) ∙ ap (λ (q : Position). generators p start k q.epoch) (rest k (omega arith))) in
    let make : List PlainSlot → List PlainPair → Sample = λ x y. record { bit = b; epoch = until; slots = x; pairs = y } in
    ap₂ make slots pairs

pub whole-slots : (o : Origin) (d : RaggedEndedView) (b : ℕ) → IsStop o d → AllEnded o.window.until (stages_of d.stand) → b < 64
    → (uneven_part (plan_of o).size b d.stand).slots ≡ (all_ready (plan_of o) (board.starts o b) o.window.until).slots
unfolding part
whole-slots o d b s ended small = ap (λ (x : Sample). x.slots) (whole-part o d b s ended small)

pub whole-floor : (o : Origin) (d : RaggedEndedView) → IsStop o d → 0 < slots_in o → AllEnded o.window.until (stages_of d.stand) → floor_of (positions_of d.stand) ≡ o.window.until
whole-floor o d s some ended =
    let ps = positions_of d.stand in
    let long : length ps ≡ slots_in o = length-map d.stand.places position_of ∙ s.fits.places in
    let low = least-some (λ t. done (position_in ps t)) (length ps) (omega arith) in
    let known : low.0 < slots_in o = omega (arith, low.1) in
    let rest = rest-at d.stand.places low.0 o.window.until (omega (arith, s.fits.places)) (ended low.0 (subst (λ k. low.0 < k) (sym (length-map d.stand.places start_place ∙ s.fits.places)) known)) in
    let at : done (position_in ps low.0) ≡ o.window.until + 0 = ap done rest in
    let is = low.2 in omega arith

whole-records : (o : Origin) (d : RaggedEndedView) → IsStop o d → 0 < slots_in o → AllEnded o.window.until (stages_of d.stand)
    → d.records ≡ uneven_records (plan_of o) (board.starts o) o.base.pending o.window.samples o.window.every o.window.until
whole-records o d s some ended =
    let floor = whole-floor o d s some ended in
    let R : ℕ → Type 0 = λ e. take (rows_before o e * o.window.samples * slots_in o) d.records ≡ uneven_records (plan_of o) (board.starts o) o.base.pending o.window.samples o.window.every e in
    sym (take_all (row_total o) d.records (omega (arith, s.sized))) ∙ subst R floor s.records

-- the end in the origin's words
whole-origin : (o : Origin) (until samples every : ℕ) (plan : Plan) (base : RaggedStand) (d : RaggedEndedView) → plan_of o ≡ plan → o.base ≡ base → o.window.until ≡ until → o.window.samples ≡ samples → o.window.every ≡ every
    → ((b : ℕ) → b < 64 → part (plan_of o).size b (stand_at o.window.until d.stand) ≡ all_ready (plan_of o) (board.starts o b) o.window.until)
    → d.records ≡ uneven_records (plan_of o) (board.starts o) o.base.pending o.window.samples o.window.every o.window.until
    → ((b : ℕ) → b < 64 → part plan.size b (stand_at until d.stand) ≡ all_ready plan (uneven_part plan.size b base) until)
    × (d.records ≡ uneven_records plan (λ b. uneven_part plan.size b base) base.pending samples every until)
whole-origin o until samples every plan base d plan_is base_is until_is samples_is every_is parts records =
    let A : Plan → RaggedStand → ℕ → Type 0 = λ p r e. (b : ℕ) → b < 64 → part p.size b (stand_at e d.stand) ≡ all_ready p (uneven_part p.size b r) e in
    let R : Plan → RaggedStand → ℕ → ℕ → ℕ → Type 0 = λ p r e k v. d.records ≡ uneven_records p (λ b. uneven_part p.size b r) r.pending k v e in
    let a1 = subst (λ p. A p o.base o.window.until) plan_is parts in
    let a2 = subst (λ r. A plan r o.window.until) base_is a1 in
    let r1 = subst (λ p. R p o.base o.window.until o.window.samples o.window.every) plan_is records in
    let r2 = subst (λ r. R plan r o.window.until o.window.samples o.window.every) base_is r1 in
    let r3 = subst (λ e. R plan base e o.window.samples o.window.every) until_is r2 in
    let r4 = subst (λ k. R plan base until k o.window.every) samples_is r3 in
    (subst (λ e. A plan base e) until_is a2, subst (λ v. R plan base until samples v) every_is r4)

pub unstopped-whole : (run : RunView) (d : RaggedEndedView) → run.takes ≡ every_take → IsEnd run d → IsWhole run d
unstopped-whole run d takes e =
    let o = d.origin in
    let ps = stages_of d.stand in
    let ended = whole-ended run d takes e in
    let U : ℕ → Type 0 = λ k. AllEnded k ps in
    let all : AllEnded o.window.until ps = subst U (sym e.origin.until_is) ended in
    let w = whole-origin o run.until run.orders.samples run.orders.every run.plan run.base d e.origin.plan_is e.origin.base_is e.origin.until_is e.origin.samples_is e.origin.every_is
    (λ b small. whole-part o d b e.stop all small) (whole-records o d e.stop e.lawful.plan.rules.some all) in
    record { places = ended; stand = w.0; records = w.1 }

-- states that agree for each sample have the same records
records-same : (plan : Plan) (s t : ℕ → UnevenState) (samples every e : ℕ) → ((b : ℕ) → s b ≡ t b) → uneven_records plan s [] samples every e ≡ uneven_records plan t [] samples every e
records-same plan s t samples every e same =
    let states : s ≡ t = λ i. λ b. same b i in
    ap (λ (z : ℕ → UnevenState). uneven_records plan z [] samples every e) states

pub level-serial : (run : RunView) (stand : Stand) (d : RaggedEndedView) → run.takes ≡ every_take → run.base ≡ level_stand stand → StandFits run.plan stand → IsEnd run d
    → IsSerial run (λ b. part run.plan.size b stand) d
unfolding part
level-serial run stand d takes base fits e =
    let w = unstopped-whole run d takes e in
    let plan = run.plan in
    let some : 0 < slots_of plan = subst (λ (p : Plan). 0 < slots_of p) e.origin.plan_is e.lawful.plan.rules.some in
    let at : (b : ℕ) → starts run b ≡ level_start plan (part plan.size b stand) = λ b. ap (uneven_part plan.size b) base ∙ level-part plan b stand fits.slots in
    let floor = level-floor stand (omega (arith, fits.slots)) in
    let floor0 = floor.0 in
    let o = d.origin in
    let begins : floor_in o ≡ stand.epoch = ap (λ (r : RaggedStand). floor_of (positions_of r)) (e.origin.base_is ∙ base) ∙ floor0 in
    let until_is = e.origin.until_is in
    let from : stand.epoch ≤ run.until = let a = (floor-deep o e.lawful).1 in omega arith in
    record {
      places = w.places;
      stand = λ b small. w.stand b small ∙ (ap (λ s. all_ready plan s run.until) (at b) ∙ all_ready-serial plan (part plan.size b stand) run.until (part-fits plan b stand small fits) from);
      records = w.records ∙ (ap (λ (r : RaggedStand). uneven_records plan (λ b. uneven_part plan.size b r) r.pending run.orders.samples run.orders.every run.until) base
          ∙ (records-same plan (λ b. uneven_part plan.size b (level_stand stand)) (λ b. level_start plan (part plan.size b stand)) run.orders.samples run.orders.every run.until (λ b. level-part plan b stand fits.slots)
          ∙ level-records plan (λ b. part plan.size b stand) run.orders.samples run.orders.every run.until some (λ b h. (refl, refl))));
    }

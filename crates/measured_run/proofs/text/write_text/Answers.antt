use Rattle.std.proofs.Common.{◌≡◌, ℕ, ◌*◌, ◌<◌, ◌≤◌, List, length, ap, sym, subst, ◌∙◌, arith}
use Rattle.std.proofs.lemmas.List.{length-map}
use Rattle.glass_edges.specs.Writes.{Writes}
use Rattle.scalar_rule.specs.Plan.{Plan, slots_of}
use Rattle.scalar_rule.specs.declared.sample.Sample.{Sample}
use Rattle.measured_sums.specs.SumsText.{Heading, sums_text}
use Rattle.plane_sums.specs.Bins.{SumsView}
use Rattle.sums_report.specs.HeldSums.{held_sums, AreHeld}
use Rattle.run_checkpoint.specs.BankEncoding.{BanksStand}
use Rattle.measured_run.specs.Banks.{BankView}
use Rattle.measured_run.specs.Runs.{RunView}
use Rattle.measured_run.specs.Text.{measure_text}
use Rattle.measured_run.proofs.BankLists.{shape-at}
use Rattle.measured_run.proofs.Texts.{are-held, text-serial}
use Rattle.measured_run.proofs.text.write_text.Goals as goal
use Rattle.measured_run.proofs.text.write_text.Goals.{After-deref}

some : (g : _) (c : After-deref g) → 0 < length c.done.inside.banks.items
some g c = omega (arith, c.done.invariant.banks.starts.some, length-map c.done.inside.banks.items (λ (b : BankView). b.plan))

-- the plan is that of bank 0
own : (g : _) (c : After-deref g) → c.plan-plan.result.now ≡ c.index.result.now.plan
own g c = c.plan-plan.ensures

sized : (g : _) (c : After-deref g) → c.size.result ≡ c.done.invariant.banks.starts.size
sized g c =
    let starts = c.done.invariant.banks.starts in
    let shape = shape-at starts.size starts.slots c.done.inside.banks.items 0 c.index.result.now (some g c) starts.shape in
    c.size.ensures.value ∙ c.lattice.ensures.value ∙ ap (λ (p : Plan). p.size) (own g c) ∙ ap (λ (b : BankView). b.plan.size) c.index.ensures ∙ shape.0

counted : (g : _) (c : After-deref g) → c.slots.result ≡ c.done.invariant.banks.starts.slots
counted g c =
    let starts = c.done.invariant.banks.starts in
    let shape = shape-at starts.size starts.slots c.done.inside.banks.items 0 c.index.result.now (some g c) starts.shape in
    c.slots.ensures.value ∙ ap (λ (p : Plan). slots_of p) (own g c) ∙ ap (λ (b : BankView). slots_of b.plan) c.index.ensures ∙ shape.1

small : (g : _) (c : After-deref g) → c.size.result ≤ 64
small g c = omega (arith, c.size.ensures.lawful.1, c.size.ensures.value)

few : (g : _) (c : After-deref g) → c.args.title.now.samples ≤ 64 * length c.done.inside.banks.items
few g c =
    let asked = subst (λ (v : RunView). c.args.title.now.samples ≤ 64 * length v.plans) (sym c.done.view_is) c.requires.samples in
    omega (arith, asked, length-map c.done.inside.banks.items (λ (b : BankView). b.plan))

pub write_sums-requires-clause-held : goal.write_sums-requires-clause-held
write_sums-requires-clause-held g c =
    let r = c.done.inside in
    let t = c.args.title.now in
    let h : Heading =
    record { size = c.size.result; slots = c.slots.result; samples = t.samples; rule = t.rule.now; every = r.course.every; from = r.course.from; to = r.course.until; digest = t.digest.now } in
    subst (λ (ss : List (List SumsView)). AreHeld h ss) (sym c.deref.ensures.value)
    (are-held r.course r.banks.items r.sums.items c.done.invariant.banks c.done.invariant.sums c.index.result.now c.size.result c.slots.result t.samples t.rule.now t.digest.now
    (sized g c) (counted g c) (small g c) (few g c))

pub returns : goal.returns
returns g c =
    let at = (goal.at.returns g c).After-deref in
    let r = c.done.inside in
    let t = c.args.title.now in
    let h : Heading =
    record { size = c.size.result; slots = c.slots.result; samples = t.samples; rule = t.rule.now; every = r.course.every; from = r.course.from; to = r.course.until; digest = t.digest.now } in
    let W : List ℕ → Type 0 = λ bytes. Writes g.O.Sink c.args.out.now c.write_sums.new.out bytes c.write_sums.result in
    let S : RunView → Type 0 = λ v. (starts : List (ℕ → Sample)) → BanksStand v.plans starts v.bases
    → W (measure_text v.plans starts t.samples t.rule.now t.digest.now v.every v.until) in
    subst S c.done.view_is
    (λ starts stand.
    subst W
    (ap (λ (ss : List (List SumsView)). sums_text h (held_sums ss)) c.deref.ensures.value
    ∙ text-serial r.course r.banks.items r.sums.items starts c.size.result c.slots.result t.samples t.rule.now t.digest.now c.done.invariant.banks c.done.invariant.sums
    (sized g at) (counted g at) (small g at) (few g at) stand)
    c.write_sums.ensures)

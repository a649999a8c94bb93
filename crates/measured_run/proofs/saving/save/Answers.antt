use Rattle.std.proofs.Common.{◌≡◌, ℕ, ◌≤◌, List, length, ap, subst, ◌∙◌, arith}
use Rattle.std.proofs.lemmas.List.{length-map}
use Rattle.glass_edges.specs.Contents.{Placed}
use Rattle.scalar_rule.specs.declared.sample.Sample.{Sample}
use Rattle.run_checkpoint.specs.BankEncoding.{BanksStand}
use Rattle.measured_run.specs.Banks.{BankView, plans_in}
use Rattle.measured_run.specs.KeptRuns.{HasSpare, end_checkpoint, spare_for}
use Rattle.measured_run.specs.Runs.{RunView, checkpoint_at}
use Rattle.measured_run.proofs.Savings.{spare-whole, checkpoint-serial, on-ok}
use Rattle.measured_run.proofs.saving.save.Goals as goal

pub write-requires-clause-spare : goal.write-requires-clause-spare
write-requires-clause-spare g c =
    let r = c.done.inside in
    let starts = c.done.invariant.banks.starts in
    let room = subst (HasSpare (plans_in r.banks.items)) c.in-Some.is c.done.invariant.saving in
    let some : 1 ≤ length r.banks.items = omega (arith, starts.some, length-map r.banks.items (λ (b : BankView). b.plan)) in
    let whole = spare-whole starts.size starts.slots r.banks.items some starts.shape in
    let own = ap spare_for c.deref.ensures.value in
    omega (arith, room.1, whole, own)

pub returns-clause-placed : goal.returns-clause-placed
returns-clause-placed g c =
    let r = c.done.inside in
    let banks = r.banks.items in
    let P : List ℕ → Type 0 = λ bytes. Placed (g.H.Shelf.holds c.args.shelf.now) (g.H.Shelf.holds c.place.new.self) c.args.name.now bytes in
    let text : c.bytes.result.now ≡ end_checkpoint banks = c.bytes.ensures ∙ c.write.ensures ∙ ap end_checkpoint c.deref.ensures.value in
    let S : RunView → Type 0 = λ v. (starts : List (ℕ → Sample)) → BanksStand v.plans starts v.bases → P (checkpoint_at v.plans starts v.until) in
    on-ok c.place.result (P c.bytes.result.now) (S c.args.done)
    (λ placed. subst S c.done.view_is
    (λ starts stand. subst P (text ∙ checkpoint-serial banks starts r.course.until (λ k d h. (c.done.invariant.banks.each k d h).until) stand) placed))
    c.place.ensures.placed

-- The packed states of several banks: the opening states, one bank after the other, and those of a checkpoint.
use Rattle.std.proofs.Common.{arith, ◌≡◌, inr, ℕ, zero, suc, ◌+◌, ◌<◌, List, [], ◌∷◌, ◌++◌, length, take, map, drop, get_or, Option, Some, None, Result, Ok, Err, refl, sym, ap, ◌∙◌, subst, add-zero, add-one}
use Rattle.std.proofs.lemmas.List.{length-map, length-take}
use Rattle.glass_edges.specs.Refusals.{unless}
use Rattle.plane_sweep.specs.Packed.{part, StandFits, StandsFor}
use Rattle.plane_sweep.specs.declared.stand.Stand.{Stand}
use Rattle.run_checkpoint.specs.BankDecoding.{banks_refusal, banks_in, banks_decoded, AreEncoded}
use Rattle.run_checkpoint.specs.BankEncoding.{bank_len, banks_parts, BanksFit, BanksStand}
use Rattle.run_checkpoint.specs.declared.refused.CheckpointRefused.{CheckpointRefused}
use Rattle.run_checkpoint.specs.declared.refused.CheckpointRefused.TheVariants as checkpoint
use Rattle.scalar_rule.specs.Opening.{opening}
use Rattle.scalar_rule.specs.Plan.{Plan}
use Rattle.scalar_rule.specs.declared.sample.Sample.{Sample}
use Rattle.scalar_rule.specs.declared.sample.Start.{Start}
use Rattle.glass_main.specs.Endings.{IsOfCheckpoint}
use Rattle.glass_main.specs.ManyBanks.{PlannedBanks, openings_from, banks_resumed_by}
use Rattle.glass_main.specs.Resumes.{Resumes, AreResumable}
use Rattle.glass_main.proofs.Resumed.{refused-by}

-- ---- one bank more

pub take-next : {X Y : Type 0} (f : X → Y) (xs : List X) (g : ℕ) (x : X) → g < length xs → x ≡ get_or xs g x → take (suc g) (map f xs) ≡ take g (map f xs) ++ f x ∷ []
take-next f [] g x below is = absurd (omega arith)
take-next f (y ∷ ys) zero x below is = ap (λ z. f z ∷ []) (sym is)
take-next f (y ∷ ys) (suc g) x below is = ap (λ zs. f y ∷ zs) (take-next f ys g x (omega arith) is)

pub stand-push : (plans : List Plan) (states : List (ℕ → Sample)) (stands : List Stand) (plan : Plan) (own : ℕ → Sample) (stand : Stand) → BanksStand plans states stands → StandsFor plan own stand
    → BanksStand (plans ++ plan ∷ []) (states ++ own ∷ []) (stands ++ stand ∷ [])
unfolding BanksStand
stand-push [] [] [] plan own stand all one = (one, tt)
stand-push [] [] (x ∷ xs) plan own stand all one = absurd all
stand-push [] (s ∷ ss) [] plan own stand all one = absurd all
stand-push [] (s ∷ ss) (x ∷ xs) plan own stand all one = absurd all
stand-push (p ∷ ps) [] [] plan own stand all one = absurd all
stand-push (p ∷ ps) [] (x ∷ xs) plan own stand all one = absurd all
stand-push (p ∷ ps) (s ∷ ss) [] plan own stand all one = absurd all
stand-push (p ∷ ps) (s ∷ ss) (x ∷ xs) plan own stand all one = (all.0, stand-push ps ss xs plan own stand all.1 one)

pub fit-push : (epoch : ℕ) (plans : List Plan) (stands : List Stand) (plan : Plan) (stand : Stand) → BanksFit epoch plans stands → StandFits plan stand → stand.epoch ≡ epoch
    → BanksFit epoch (plans ++ plan ∷ []) (stands ++ stand ∷ [])
unfolding BanksFit
fit-push epoch [] [] plan stand all fits at = (fits, at, tt)
fit-push epoch [] (x ∷ xs) plan stand all fits at = absurd all
fit-push epoch (p ∷ ps) [] plan stand all fits at = absurd all
fit-push epoch (p ∷ ps) (x ∷ xs) plan stand all fits at = (all.0, all.1, fit-push epoch ps xs plan stand all.2 fits at)

pub openings-push : (g : ℕ) (plans : List Plan) (plan : Plan) (start : Start) → openings_from g (plans ++ plan ∷ []) start ≡ openings_from g plans start ++ opening plan start (g + length plans) ∷ []
unfolding openings_from
openings-push g [] plan start = ap (λ k. opening plan start k ∷ []) (sym (add-zero g))
openings-push g (p ∷ ps) plan start =
    let at : g + 1 + length ps ≡ g + suc (length ps) = omega arith in
    ap (λ ss. opening p start g ∷ ss) (openings-push (g + 1) ps plan start ∙ ap (λ k. openings_from (g + 1) ps start ++ opening plan start k ∷ []) at)

-- the opening state is at epoch 0
pub opening-epoch : (plan : Plan) (start : Start) (bank : ℕ) (stand : Stand) → StandsFor plan (opening plan start bank) stand → stand.epoch ≡ 0
unfolding part
opening-epoch plan start bank stand stands = ap (λ (s : Sample). s.epoch) (stands 0 (omega arith))

-- ---- a checkpoint

-- packed states stand for the states that they are taken apart to
pub parts-stand : (epoch : ℕ) (plans : List Plan) (stands : List Stand) → BanksFit epoch plans stands → BanksStand plans (banks_parts plans stands) stands
unfolding BanksFit BanksStand banks_parts
parts-stand epoch [] [] fit = tt
parts-stand epoch [] (x ∷ xs) fit = absurd fit
parts-stand epoch (p ∷ ps) [] fit = absurd fit
parts-stand epoch (p ∷ ps) (x ∷ xs) fit = ((λ b small. refl), parts-stand epoch ps xs fit.2)

pub banks-resume : (planned : PlannedBanks) (until : ℕ) (bytes : List ℕ) (stands : List Stand) → AreEncoded planned.plans until bytes stands → banks_decoded planned.plans until bytes ≡ Ok stands
    → Resumes (BanksStand planned.plans) (banks_resumed_by planned until bytes) (Ok stands)
unfolding banks_decoded banks_resumed_by
banks-resume planned until bytes stands encoded is = resumed (banks_refusal planned.plans until bytes) (banks_in (bank_len planned.plans) planned.plans (drop 12 bytes)) is
  where
    resumed : (refusal : Option CheckpointRefused) (read : List Stand) → unless refusal read ≡ Ok stands
        → (from : List (ℕ → Sample)) × (unless refusal (banks_parts planned.plans read) ≡ Ok from) × BanksStand planned.plans from stands
    resumed None read h =
        let same : read ≡ stands = same-ok read stands h in
        (banks_parts planned.plans stands, ap (λ xs. Ok (banks_parts planned.plans xs)) same, parts-stand encoded.epoch planned.plans stands encoded.fit)
      where
        same-ok : (a b : List Stand) → ◌≡◌ {A = Result (List Stand) CheckpointRefused} (Ok a) (Ok b) → a ≡ b
        same-ok a b e = cc
    resumed (Some e) read h = absurd cc

pub encoded-resumable : (planned : PlannedBanks) (until : ℕ) (bytes : List ℕ) (stands : List Stand) → AreEncoded planned.plans until bytes stands → AreResumable planned.plans until stands
encoded-resumable planned until bytes stands encoded = record { epoch = encoded.epoch; fit = encoded.fit; in_time = encoded.in_time }

pub banks-refused : (planned : PlannedBanks) (until : ℕ) (bytes : List ℕ) (e : CheckpointRefused) → (¬ (e ≡ checkpoint.NoMemory) → banks_decoded planned.plans until bytes ≡ Err e)
    → ¬ (e ≡ checkpoint.NoMemory) → IsOfCheckpoint e × (banks_resumed_by planned until bytes ≡ Err e)
unfolding banks_decoded banks_resumed_by
banks-refused planned until bytes e exact not =
    let both = refused-by (banks_refusal planned.plans until bytes) (banks_in (bank_len planned.plans) planned.plans (drop 12 bytes)) (banks_parts planned.plans (banks_in (bank_len planned.plans) planned.plans (drop 12 bytes))) e (exact not) in
    (record { refusal = not; cause = inr (planned.plans, until, bytes, both.0) }, both.1)

-- ---- the opening states, one bank after the other

pub none-open : (start : Start) → BanksStand [] (openings_from 0 [] start) []
unfolding BanksStand openings_from
none-open start = tt

pub none-fit : BanksFit 0 [] []
unfolding BanksFit
none-fit = tt

module _ {X : Type 0} (f : X → Plan) (plans : List X) (start : Start) (g : ℕ) (x : X) (below : g < length plans) (is : x ≡ get_or plans g x) where
  next-cut : take (g + 1) (map f plans) ≡ take g (map f plans) ++ f x ∷ []
  next-cut = ap (λ k. take k (map f plans)) (add-one g) ∙ take-next f plans g x below is

  next-opening : openings_from 0 (take (g + 1) (map f plans)) start ≡ openings_from 0 (take g (map f plans)) start ++ opening (f x) start g ∷ []
  next-opening =
      let long = length-take g (map f plans) in
      let all = length-map plans f in
      let at : 0 + length (take g (map f plans)) ≡ g = omega arith in
      ap (λ ps. openings_from 0 ps start) next-cut ∙ openings-push 0 (take g (map f plans)) (f x) start ∙ ap (λ k. openings_from 0 (take g (map f plans)) start ++ opening (f x) start k ∷ []) at

  pub next-open : (stands : List Stand) (stand : Stand) → BanksStand (take g (map f plans)) (openings_from 0 (take g (map f plans)) start) stands → StandsFor (f x) (opening (f x) start g) stand
      → BanksStand (take (g + 1) (map f plans)) (openings_from 0 (take (g + 1) (map f plans)) start) (stands ++ stand ∷ [])
  next-open stands stand all own =
      let S : List Plan → List (ℕ → Sample) → Type 0 = λ ps ss. BanksStand ps ss (stands ++ stand ∷ []) in
      let pushed = stand-push (take g (map f plans)) (openings_from 0 (take g (map f plans)) start) stands (f x) (opening (f x) start g) stand all own in
      subst (λ ss. S (take (g + 1) (map f plans)) ss) (sym next-opening) (subst (λ ps. S ps (openings_from 0 (take g (map f plans)) start ++ opening (f x) start g ∷ [])) (sym next-cut) pushed)

  pub next-fit : (epoch : ℕ) (stands : List Stand) (stand : Stand) → BanksFit epoch (take g (map f plans)) stands → StandFits (f x) stand → stand.epoch ≡ epoch
      → BanksFit epoch (take (g + 1) (map f plans)) (stands ++ stand ∷ [])
  next-fit epoch stands stand all fits at =
      subst (λ ps. BanksFit epoch ps (stands ++ stand ∷ [])) (sym next-cut) (fit-push epoch (take g (map f plans)) stands (f x) stand all fits at)

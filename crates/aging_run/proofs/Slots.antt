-- The slots of a stand that were not reached yet.
use Rattle.std.proofs.Common.{◌≡◌, ℕ, ◌<◌, List, ◌++◌, length, get_or, sym, ap, ◌∙◌, subst, arith}
use Rattle.std.proofs.Math.Path.{fun_ext}
use Rattle.std.proofs.lemmas.List.{get_or_read, get_or-map}
use Rattle.plane_sweep.specs.Packed.{part, part_slot, FitsDuo, StandFits}
use Rattle.plane_sweep.specs.Storing.{Changed}
use Rattle.plane_sweep.specs.declared.replica.Duo.{Duo}
use Rattle.plane_sweep.specs.declared.stand.Stand.{Stand}
use Rattle.scalar_rule.specs.Epoch.{slot_at}
use Rattle.scalar_rule.specs.Plan.{Plan, slots_of}
use Rattle.aging_run.specs.Aging.{slot_lines, header_line, all_lines, end_line, aging_text}

-- the slots from number n on are as they were
abbrev pub ReachedTo : ℕ → List Duo → List Duo → Type 0
ReachedTo n old now = Changed (λ _ _ _. Unit {0}) n old now

-- so a slot that is read there is the one at the quench
pub slot-read : (old now : List Duo) (t : ℕ) (duo : Duo) → ReachedTo t old now → t < length old → duo ≡ get_or now t duo → duo ≡ get_or old t duo
slot-read old now t duo before within read =
    let long = before.sized in
    get_or_read now t duo (omega arith) read duo ∙ before.kept t duo (omega arith)

pub slot-fits : (plan : Plan) (stand : Stand) (t : ℕ) (duo : Duo) → StandFits plan stand → t < length stand.slots → duo ≡ get_or stand.slots t duo → FitsDuo plan.size duo
slot-fits plan stand t duo fits within read = subst (FitsDuo plan.size) (sym read) (fits.each_slot t duo within)

slot-part : (size b t : ℕ) (stand : Stand) (duo : Duo) → t < length stand.slots → duo ≡ get_or stand.slots t duo → part_slot size b duo ≡ slot_at (part size b stand).slots t
unfolding part
slot-part size b t stand duo within read = sym (get_or-map (part_slot size b) stand.slots t duo _ within ∙ ap (part_slot size b) (sym read))

-- and its lines are those of the samples' slots
pub slot-lines : (plan : Plan) (samples wait : ℕ) (times : List ℕ) (t : ℕ) (stand : Stand) (duo : Duo) → t < length stand.slots → duo ≡ get_or stand.slots t duo
    → slot_lines plan samples wait times t (λ b. part_slot plan.size b duo) ≡ slot_lines plan samples wait times t (λ b. slot_at (part plan.size b stand).slots t)
slot-lines plan samples wait times t stand duo within read = ap (slot_lines plan samples wait times t) (fun_ext (λ b. slot-part plan.size b t stand duo within read))

-- the text is the first line, those of the slots of a stand by another name, and the last line
pub text-is : (plan : Plan) (samples wait : ℕ) (times : List ℕ) (stand same : Stand) → same ≡ stand
    → aging_text plan samples wait times (λ b. part plan.size b stand)
    ≡ header_line plan samples wait ++ all_lines plan samples wait times (λ b. part plan.size b same) (slots_of plan) ++ end_line
unfolding aging_text
text-is plan samples wait times stand same is =
    ap (λ (s : Stand). header_line plan samples wait ++ all_lines plan samples wait times (λ b. part plan.size b s) (slots_of plan) ++ end_line) (sym is)

-- Two runs whose samples are at the same states at the quench have one text.
use Rattle.std.proofs.Common.{◌≡◌, ℕ, ◌<◌, List, ◌++◌, flat_map, ap, ◌∙◌, arith}
use Rattle.std.proofs.Math.Path.{fun_ext}
use Rattle.plane_sweep.specs.Packed.{part}
use Rattle.scalar_rule.specs.Epoch.{slot_at}
use Rattle.scalar_rule.specs.Plan.{Plan, slots_of, dynamics_of}
use Rattle.scalar_rule.specs.declared.plain_copy.PlainCopy.{PlainCopy}
use Rattle.scalar_rule.specs.declared.sample.PlainSlot.{PlainSlot}
use Rattle.scalar_rule.specs.declared.sample.Sample.{Sample}
use Rattle.aging_run.specs.Aging.{two_time_overlap, overlaps_at, header_line, end_line, replica_lines, slot_lines, aging_text}
use Rattle.aging_run.specs.Laws.{TextIsOfTheStates}
use Rattle.spin_model.proofs.Joined.{joined-same}
use Rattle.aging_run.proofs.Times.{lines-are}

replica-lines-same : (plan : Plan) (samples wait : ℕ) (times : List ℕ) (slot copy : ℕ) (r s : ℕ → PlainCopy) → ((b : ℕ) → b < samples → r b ≡ s b)
    → replica_lines plan samples wait times slot copy r ≡ replica_lines plan samples wait times slot copy s
replica-lines-same plan samples wait times slot copy r s same =
    ap (λ f. flat_map f times) (fun_ext (λ t. lines-are slot copy t samples (overlaps_at plan slot wait r t) (overlaps_at plan slot wait s t)
    (λ b below. ap (two_time_overlap (dynamics_of plan b slot) wait t) (same b below))))

slot-lines-same : (plan : Plan) (samples wait : ℕ) (times : List ℕ) (slot : ℕ) (r s : ℕ → PlainSlot) → ((b : ℕ) → b < samples → r b ≡ s b)
    → slot_lines plan samples wait times slot r ≡ slot_lines plan samples wait times slot s
slot-lines-same plan samples wait times slot r s same =
    ap (λ xs. xs ++ replica_lines plan samples wait times slot 1 (λ b. (r b).second))
    (replica-lines-same plan samples wait times slot 0 (λ b. (r b).first) (λ b. (s b).first) (λ b below. ap (λ (d : PlainSlot). d.first) (same b below)))
    ∙ ap (λ xs. replica_lines plan samples wait times slot 0 (λ b. (s b).first) ++ xs)
    (replica-lines-same plan samples wait times slot 1 (λ b. (r b).second) (λ b. (s b).second) (λ b below. ap (λ (d : PlainSlot). d.second) (same b below)))

texts-same : (plan : Plan) (samples wait : ℕ) (times : List ℕ) (r s : ℕ → Sample) → ((b : ℕ) → b < samples → r b ≡ s b)
    → aging_text plan samples wait times r ≡ aging_text plan samples wait times s
unfolding aging_text
texts-same plan samples wait times r s same =
    ap (λ xs. header_line plan samples wait ++ xs ++ end_line)
    (joined-same (λ slot. slot_lines plan samples wait times slot (λ b. slot_at (r b).slots slot)) (λ slot. slot_lines plan samples wait times slot (λ b. slot_at (s b).slots slot))
    (λ slot. slot) (slots_of plan) (λ slot below. slot-lines-same plan samples wait times slot (λ b. slot_at (r b).slots slot) (λ b. slot_at (s b).slots slot)
    (λ b small. ap (λ (state : Sample). slot_at state.slots slot) (same b small))))

pub text-of-the-states : TextIsOfTheStates
text-of-the-states plan states stand samples wait times stands few =
    texts-same plan samples wait times (λ b. part plan.size b stand) states (λ b below. stands b (omega arith))

-- A call whose ending fits what is asked for does it, or tells its refusal, where neither a fault nor lack of memory ended it.
use Rattle.std.proofs.Common.{◌≡◌, ℕ, List, Option, Some, None, IfSome, Result, Ok, Err, inl, inr, ap, ◌∙◌}
use Rattle.command_words.specs.CommandLine.{Command, saved_name}
use Rattle.glass_main.specs.Outside.{Output, Store}
use Rattle.glass_main.specs.Request.{Work, request_for}
use Rattle.glass_main.specs.Statuses.{refusal_status, status_of, IsTold, Fits, Printed, Kept, Ends, Completes}
use Rattle.glass_main.specs.declared.refusal.Refusal.{Refusal}
use Rattle.glass_main.specs.declared.refusal.Refusal.TheVariants.{Words, Absent, TooLong, Plan, Rules, Swaps, Couplings, Checkpoint, Report, SecondCheckpoint}
use Rattle.glass_main.specs.declared.ending.Ending.{Ending}
use Rattle.glass_main.specs.declared.ending.Ending.TheVariants.{Done, Refused, Unread, Unwritten, Unsaved, NoMemory}

-- the refusal that is told has the status of the one that is due
told-status : (due told : Refusal) → IsTold due told → refusal_status told ≡ refusal_status due
told-status Words told is = ap refusal_status is
told-status (Absent role) told is = ap refusal_status is
told-status (TooLong role m) told (n, is, above, within) = ap refusal_status is
told-status (Plan refused) told is = ap refusal_status is
told-status (Rules refused) told is = ap refusal_status is
told-status (Swaps refused) told is = ap refusal_status is
told-status (Couplings refused) told is = ap refusal_status is
told-status (Checkpoint refused) told is = ap refusal_status is
told-status (Report refused) told is = ap refusal_status is
told-status (SecondCheckpoint refused) told is = ap refusal_status is

completes-asked : (asked : Option (Result Work Refusal)) (name : Option (List ℕ)) (ending : Ending) (status : ℕ) (held holds : Store) (before now : Output)
    → IfSome asked (λ a. Fits a ending) → Printed ending before now → Kept name ending held holds → status ≡ status_of ending
    → IfSome asked (λ a. Completes a status held holds before now)
completes-asked None name ending status held holds before now fits out files is = tt
completes-asked (Some (Ok work)) name Done status held holds before now fits out files is = λ read put. inl is
completes-asked (Some (Ok work)) name (Refused told) status held holds before now fits out files is = absurd fits
completes-asked (Some (Ok work)) name (Unread role) status held holds before now fits out files is = λ read put. absurd (read files.1)
completes-asked (Some (Ok work)) name Unwritten status held holds before now fits out files is = λ read put. absurd (put out)
completes-asked (Some (Ok work)) name Unsaved status held holds before now fits out files is = λ read put. absurd (read files.1)
completes-asked (Some (Ok work)) name NoMemory status held holds before now fits out files is = λ read put. inr is
completes-asked (Some (Err due)) name Done status held holds before now fits out files is = absurd fits
completes-asked (Some (Err due)) name (Refused told) status held holds before now fits out files is = λ read. inl (is ∙ told-status due told fits)
completes-asked (Some (Err due)) name (Unread role) status held holds before now fits out files is = λ read. absurd (read files.1)
completes-asked (Some (Err due)) name Unwritten status held holds before now fits out files is = absurd fits
completes-asked (Some (Err due)) name Unsaved status held holds before now fits out files is = absurd fits
completes-asked (Some (Err due)) name NoMemory status held holds before now fits out files is = λ read. inr is

pub completes : (command : Option Command) (ending : Ending) (status : ℕ) (held holds : Store) (before now : Output)
    → Ends command ending held holds before now → status ≡ status_of ending
    → IfSome (request_for command held.holds) (λ asked. Completes asked status held holds before now)
completes command ending status held holds before now ends is =
    completes-asked (request_for command held.holds) (saved_name command) ending status held holds before now ends.cause ends.out ends.files is

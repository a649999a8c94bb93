-- The line of the spins behind what the buffer had.
use Rattle.std.proofs.Common.{◌≡◌, List, ℕ, ◌++◌, ap, ◌∙◌, append_assoc}

-- the line is added in three pieces
pub three_pieces : (line head digits last added : List ℕ) → added ≡ line ++ head → (added ++ digits) ++ last ≡ line ++ (head ++ digits ++ last)
three_pieces line head digits last added is =
    ap (λ xs. (xs ++ digits) ++ last) is
    ∙ ap (λ xs. xs ++ last) (append_assoc line head digits)
    ∙ append_assoc line (head ++ digits) last

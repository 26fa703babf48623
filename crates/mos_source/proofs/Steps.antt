-- Steps of the machine, one by one.

use Rattle.std.proofs.Common.{◌≡◌, ℕ, ◌≤◌, true, false, List, [], ◌∷◌, ◌++◌, length, Some, None, Ok, refl, ◌∙◌, ap}
use Rattle.std.specs.Prelude.{nat_lt}
use Rattle.std.proofs.lemmas.Bool.{le-ltb}
use Rattle.std.proofs.lemmas.List.{append_assoc}
use Rattle.mos_tree.specs.declared.form.Form.{Form}
use Rattle.mos_tree.specs.declared.form.PieceKind.{PieceKind}
use Rattle.mos_tree.specs.declared.form.PieceForm.{PieceForm}
use Rattle.mos_source.specs.declared.frame.Frame.{Frame}
use Rattle.mos_source.specs.declared.place.Place.{Place}
use Rattle.mos_source.specs.declared.place.Role.{Role}
use Rattle.mos_source.specs.declared.place.Role.TheVariants.{Opens}
use Rattle.mos_tree.specs.Forms.{piece_kind_of, piece}
use Rattle.mos_source.specs.Limits.{own_limit}
use Rattle.mos_source.specs.Places.{takes_statements, begins, role_at}
use Rattle.mos_source.specs.Machine.{Stack, place_of, push_frame, opened_by, enter, block_limit, step_as, step, run}

-- a statement may begin here
abbrev pub Takes : Stack → Type 0
Takes k = takes_statements (place_of k) ≡ true

-- the first piece of a statement does the same at each of these places
pub role-of-statement : (place : Place) (piece_kind : PieceKind) (role : Role) → takes_statements place ≡ true → begins piece_kind ≡ Some role → role_at place piece_kind ≡ Some role
unfolding role_at
role-of-statement place piece_kind role t b = rw (t, b) refl

pub block-fits : (deep blocks : ℕ) → blocks ≤ deep → block_limit deep Opens blocks ≡ None
block-fits deep blocks h =
    let small : nat_lt deep blocks ≡ false = le-ltb deep blocks h in
    rw small refl

-- a piece without a limit of its own, in its role
pub step-role : (deep : ℕ) (k : Stack) (x : PieceForm) (role : Role) → role_at (place_of k) (piece_kind_of x.form) ≡ Some role → own_limit x.form ≡ None → block_limit deep role (length k) ≡ None → step deep k x ≡ Ok (enter role x.line x.form k)
unfolding step step_as
step-role deep k x role r o b = rw (r, o, b) refl

-- the run goes on behind a piece that is taken
pub run-step : (deep : ℕ) (k next : Stack) (x : PieceForm) (xs : List PieceForm) → step deep k x ≡ Ok next → run deep k (x ∷ xs) ≡ run deep next xs
run-step deep k next x xs e = rw e refl

-- the run goes on behind a piece in its role
pub run-role : (deep : ℕ) (k : Stack) (x : PieceForm) (role : Role) (xs : List PieceForm) → role_at (place_of k) (piece_kind_of x.form) ≡ Some role → own_limit x.form ≡ None → block_limit deep role (length k) ≡ None → run deep k (x ∷ xs) ≡ run deep (enter role x.line x.form k) xs
run-role deep k x role xs r o b = run-step deep k (enter role x.line x.form k) x xs (step-role deep k x role r o b)

-- a piece that opens a block
pub run-open : (deep : ℕ) (k : Stack) (line : ℕ) (form : Form) (frame : Frame) (xs : List PieceForm) → role_at (place_of k) (piece_kind_of form) ≡ Some Opens → own_limit form ≡ None → opened_by line form ≡ Some frame → length k ≤ deep → run deep k (piece line form ∷ xs) ≡ run deep (frame ∷ k) xs
run-open deep k line form frame xs r o e h =
    run-role deep k (piece line form) Opens xs r o (block-fits deep (length k) h)
    ∙ ap (λ x. run deep (push_frame x k) xs) e

-- one piece behind others, and behind that the rest
pub one-end : (xs : List PieceForm) (x : PieceForm) (rest : List PieceForm) → (xs ++ x ∷ []) ++ rest ≡ xs ++ x ∷ rest
one-end xs x rest = append_assoc xs (x ∷ []) rest

pub two-end : (xs ys : List PieceForm) (x : PieceForm) (rest : List PieceForm) → (xs ++ (ys ++ x ∷ [])) ++ rest ≡ xs ++ (ys ++ x ∷ rest)
two-end xs ys x rest = append_assoc xs (ys ++ x ∷ []) rest ∙ ap (λ zs. xs ++ zs) (one-end ys x rest)

-- The kind of the fault of a piece.

use Rattle.std.proofs.Common.{◌≡◌, ℕ, ◌+◌, ◌≤◌, Bool, true, false, cond, List, [], ◌∷◌, ◌++◌, length, Option, Some, None, Err, refl, sym, ◌∙◌, ap, subst, arith}
use Rattle.std.specs.Prelude.{nat_lt, unwrap_or}
use Rattle.mos_text.specs.declared.kind.Kind.{Kind}
use Rattle.mos_text.specs.declared.kind.Kind.TheVariants as kind
use Rattle.mos_tree.specs.declared.form.PieceKind.{PieceKind}
use Rattle.mos_tree.specs.declared.form.PieceForm.{PieceForm}
use Rattle.mos_source.specs.declared.place.Role.{Role}
use Rattle.mos_source.specs.declared.place.Role.TheVariants.{Opens, Continues, StandsAlone, Closes}
use Rattle.mos_tree.specs.Forms.{piece, piece_kind_of}
use Rattle.mos_source.specs.Limits.{own_limit}
use Rattle.mos_source.specs.Places.{role_at}
use Rattle.mos_source.specs.Sources.{depth_tops, tree_of, limit}
use Rattle.mos_source.specs.Faults.{CouldStand, IsKind, beyond, misplaced}
use Rattle.mos_source.specs.Machine.{Stack, place_of, enter, block_limit, or_block, broken_limit, outcome, step_as, step_in, step, done, stopped, run}
use Rattle.mos_source.proofs.Steps.{block-fits, one-end}
use Rattle.mos_source.proofs.CompleteSource.{source-read}
use Rattle.mos_source.proofs.Held.{Holds}
use Rattle.mos_source.proofs.SoundStep.{sound-enter, some_kind}
use Rattle.mos_source.proofs.Completing.{Closed, closing}
use Rattle.mos_source.proofs.Roles.{sample, sample-kind, sample-limit}

-- ---- a mould that may stand

pub room : (deep : ℕ) (role : Role) (n : ℕ) → n ≤ deep → block_limit deep role n ≡ None
room deep Opens n h = block-fits deep n h
room deep Continues n h = refl
room deep StandsAlone n h = refl
room deep Closes n h = refl

could-stand : (before : List PieceForm) (top : Stack) (piece_kind : PieceKind) (role : Role) → ((deeper : ℕ) → limit ≤ deeper → Holds deeper top before) → role_at (place_of top) piece_kind ≡ Some role → CouldStand before piece_kind
could-stand before top piece_kind role held r =
    let deep : ℕ = limit + length top in
    let there : Holds deep top before = held deep (omega arith) in
    let other : PieceForm = piece 0 (sample piece_kind) in
    let role-is : role_at (place_of top) (piece_kind_of (sample piece_kind)) ≡ Some role = ap (λ z. role_at (place_of top) z) (sample-kind piece_kind) ∙ r in
    let block : block_limit deep role (length top) ≡ None = room deep role (length top) (omega arith) in
    let next : Stack = enter role 0 (sample piece_kind) top in
    let all : Closed deep (before ++ other ∷ []) = closing deep (length next) next (before ++ other ∷ []) (omega arith) (sound-enter deep role top 0 (sample piece_kind) before there role-is (sample-limit piece_kind) block) in
    record {
      other = other;
      alike = sample-kind piece_kind;
      source = all.held.source;
      deep = deep;
      within = all.held.within;
      rest = all.rest;
      exact = sym all.held.exact ∙ one-end before other all.rest;
    }

-- ---- a mould that may not

pub step-none : (deep : ℕ) (k : Stack) (x : PieceForm) → role_at (place_of k) (piece_kind_of x.form) ≡ None → step deep k x ≡ Err kind.Syntax
unfolding step
step-none deep k x r = rw r refl

run-none : (deep : ℕ) (k : Stack) (x : PieceForm) (xs : List PieceForm) → step deep k x ≡ Err kind.Syntax → run deep k (x ∷ xs) ≡ stopped kind.Syntax (x ∷ xs)
run-none deep k x xs e = rw e refl

could-not : (before : List PieceForm) (top : Stack) (piece_kind : PieceKind) → ((deeper : ℕ) → limit ≤ deeper → (ys : List PieceForm) → run deeper [] (before ++ ys) ≡ run deeper top ys) → role_at (place_of top) piece_kind ≡ None → CouldStand before piece_kind → ⊥
could-not before top piece_kind goes r could =
    let deep : ℕ = limit + could.deep in
    let fits : depth_tops could.source.tops ≤ deep = omega (arith, could.within.fits) in
    let whole : run deep [] (before ++ could.other ∷ could.rest) ≡ done (tree_of could.source) = subst (λ z. run deep [] z ≡ done (tree_of could.source)) could.exact (source-read deep could.source could.within.allowed fits) in
    let role-is : role_at (place_of top) (piece_kind_of could.other.form) ≡ None = ap (λ z. role_at (place_of top) z) could.alike ∙ r in
    let half : run deep [] (before ++ could.other ∷ could.rest) ≡ stopped kind.Syntax (could.other ∷ could.rest) = goes deep (omega arith) (could.other ∷ could.rest) ∙ run-none deep top could.other could.rest (step-none deep top could.other role-is) in
    cc

-- ---- the kind

outcome-is : (found : Option Kind) (next : Stack) (wrong : Kind) → outcome found next ≡ Err wrong → found ≡ some_kind wrong
outcome-is None next wrong e = let no : ⊥ = cc in absurd no
outcome-is (Some x) next wrong e = let same : x ≡ wrong = cc in ap some_kind same

deep-is : (deep : ℕ) (n : ℕ) (wrong : Kind) (test : Bool) → nat_lt deep n ≡ test → cond test (some_kind kind.Deep) None ≡ some_kind wrong → wrong ≡ kind.Deep
deep-is deep n wrong true t e = cc
deep-is deep n wrong false t e = let no : ⊥ = cc in absurd no

block-is : (deep : ℕ) (role : Role) (n : ℕ) (wrong : Kind) → block_limit deep role n ≡ some_kind wrong → wrong ≡ kind.Deep
block-is deep Opens n wrong e = deep-is deep n wrong (nat_lt deep n) refl e
block-is deep Continues n wrong e = let no : ⊥ = cc in absurd no
block-is deep StandsAlone n wrong e = let no : ⊥ = cc in absurd no
block-is deep Closes n wrong e = let no : ⊥ = cc in absurd no

broken-own : (own block : Option Kind) (wrong : Kind) → (block ≡ some_kind wrong → wrong ≡ kind.Deep) → or_block own block ≡ some_kind wrong → wrong ≡ unwrap_or own kind.Deep
broken-own (Some x) block wrong b e = cc
broken-own None block wrong b e = b e

named-role : (before : List PieceForm) (top : Stack) (x : PieceForm) (after : List PieceForm) (wrong : Kind) (role : Option Role) → ((deeper : ℕ) → limit ≤ deeper → Holds deeper top before) → ((deeper : ℕ) → limit ≤ deeper → (ys : List PieceForm) → run deeper [] (before ++ ys) ≡ run deeper top ys) → role_at (place_of top) (piece_kind_of x.form) ≡ role → step_in limit role x.line x.form top ≡ Err wrong → IsKind before (x ∷ after) wrong
unfolding step_as
named-role before top x after wrong None held goes r e =
    let same : kind.Syntax ≡ wrong = cc in
    subst (λ z. IsKind before (x ∷ after) z) same (misplaced x after (could-not before top (piece_kind_of x.form) goes r))
named-role before top x after wrong (Some role) held goes r e =
    let found : broken_limit limit role (length top) x.form ≡ some_kind wrong = outcome-is (broken_limit limit role (length top) x.form) (enter role x.line x.form top) wrong e in
    let is : wrong ≡ unwrap_or (own_limit x.form) kind.Deep = broken-own (own_limit x.form) (block_limit limit role (length top)) wrong (block-is limit role (length top) wrong) found in
    subst (λ z. IsKind before (x ∷ after) z) (sym is) (beyond x after (could-stand before top (piece_kind_of x.form) role held r))

pub named-step : (before : List PieceForm) (top : Stack) (x : PieceForm) (after : List PieceForm) (wrong : Kind) → ((deeper : ℕ) → limit ≤ deeper → Holds deeper top before) → ((deeper : ℕ) → limit ≤ deeper → (ys : List PieceForm) → run deeper [] (before ++ ys) ≡ run deeper top ys) → step limit top x ≡ Err wrong → IsKind before (x ∷ after) wrong
unfolding step
named-step before top x after wrong held goes e = named-role before top x after wrong (role_at (place_of top) (piece_kind_of x.form)) held goes refl e

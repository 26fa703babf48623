-- What is open can be closed.

use Rattle.std.proofs.Common.{◌≡◌, ℕ, zero, suc, ◌≤◌, true, false, List, [], ◌∷◌, ◌++◌, length, Option, Some, None, Ok, refl, sym, ◌∙◌, ap, subst, arith}
use Rattle.std.proofs.lemmas.List.{append-nil}
use Rattle.mos_tree.specs.declared.declaration.BaseType.{BaseType}
use Rattle.mos_tree.specs.declared.source.ModelName.TheVariants as called
use Rattle.mos_tree.specs.declared.source.Tree.{Tree}
use Rattle.mos_tree.specs.declared.statement.Statement.TheVariants as statement_kind
use Rattle.mos_tree.specs.declared.form.Form.TheVariants as form_kind
use Rattle.mos_tree.specs.declared.form.Simple.TheVariants as simple
use Rattle.mos_tree.specs.declared.form.PieceForm.{PieceForm}
use Rattle.mos_source.specs.declared.frame.Frame.{Frame}
use Rattle.mos_source.specs.declared.frame.Frame.TheVariants as frame_kind
use Rattle.mos_source.specs.declared.place.Role.TheVariants.{Opens, StandsAlone, Closes}
use Rattle.mos_tree.specs.Forms.{piece, piece_kind_of}
use Rattle.mos_source.specs.Places.{role_at}
use Rattle.mos_source.specs.Statements.{alternative_of}
use Rattle.mos_source.specs.Machine.{Stack, frame_place, routine_place, add_statement, close, step}
use Rattle.mos_source.proofs.Steps.{block-fits, step-role, one-end}
use Rattle.mos_source.proofs.Held.{is_model, Holds}
use Rattle.mos_source.proofs.Roles.{sample, sample-kind, sample-limit, end_kind, closes_there, ends}
use Rattle.mos_source.proofs.Sound.{respelled}
use Rattle.mos_source.proofs.SoundStep.{sound}
use Rattle.mos_source.proofs.Shapes.{Adds, closes-adds, routine-no-model, no-higher, adds-no-higher}

-- with more pieces all is closed
pub record Closed (deep : ℕ) (ps : List PieceForm) : Type 0 where
  pub rest : List PieceForm
  pub tree : Tree
  pub held : Holds deep (frame_kind.End tree ∷ []) (ps ++ rest)

behind-one : (deep : ℕ) (k next : Stack) (x : PieceForm) (ps : List PieceForm) → Holds deep k ps → step deep k x ≡ Ok next → (Holds deep next (ps ++ x ∷ []) → Closed deep (ps ++ x ∷ [])) → Closed deep ps
behind-one deep k next x ps held e go =
    let more : Closed deep (ps ++ x ∷ []) = go (sound deep k next x ps held e) in
    record { rest = x ∷ more.rest; tree = more.tree; held = respelled deep (frame_kind.End more.tree ∷ []) ((ps ++ x ∷ []) ++ more.rest) (ps ++ x ∷ more.rest) (one-end ps x more.rest) more.held }

ended : (deep : ℕ) (k : Stack) (tree : Tree) (ps : List PieceForm) → Holds deep (frame_kind.End tree ∷ k) ps → Closed deep ps
ended deep k tree ps held = record { rest = []; tree = tree; held = respelled deep (frame_kind.End tree ∷ []) ps (ps ++ []) (sym (append-nil ps)) (record { alone = refl; source = held.source; within = held.within; exact = held.exact; is = held.is }) }

-- the least statement
abbrev break : PieceForm
break = piece 0 (form_kind.Simple simple.Break)

routine-closes : (typ : Option BaseType) → closes_there (routine_place typ) ≡ true
routine-closes None = refl
routine-closes (Some t) = refl

-- the piece that closes this block
abbrev closer : Frame → PieceForm
closer frame = piece 0 (sample (end_kind (frame_place frame)))

-- the blocks behind it
abbrev closed : Frame → Stack → Stack
closed frame k = close 0 (sample (end_kind (frame_place frame))) (frame ∷ k)

closer-closes : (frame : Frame) → closes_there (frame_place frame) ≡ true → role_at (frame_place frame) (piece_kind_of (sample (end_kind (frame_place frame)))) ≡ Some Closes
closer-closes frame c = ap (role_at (frame_place frame)) (sample-kind (end_kind (frame_place frame))) ∙ ends (frame_place frame) c

closes-by : (deep : ℕ) (frame : Frame) (k : Stack) (ps : List PieceForm) → Holds deep (frame ∷ k) ps → closes_there (frame_place frame) ≡ true → (Holds deep (closed frame k) (ps ++ closer frame ∷ []) → Closed deep (ps ++ closer frame ∷ [])) → Closed deep ps
closes-by deep frame k ps held c go =
    behind-one deep (frame ∷ k) (closed frame k) (closer frame) ps held (step-role deep (frame ∷ k) (closer frame) Closes (closer-closes frame c) (sample-limit (end_kind (frame_place frame))) refl) go

closed-no-higher : (deep : ℕ) (frame : Frame) (k : Stack) (ps : List PieceForm) → Holds deep (frame ∷ k) ps → closes_there (frame_place frame) ≡ true → is_model (frame_place frame) ≡ false → length (closed frame k) ≤ length k
closed-no-higher deep frame k ps held c model =
    let adds : Adds k (is_model (frame_place frame)) (closed frame k) = closes-adds deep 0 (sample (end_kind (frame_place frame))) frame k ps held (sample-limit (end_kind (frame_place frame))) (closer-closes frame c) in
    adds-no-higher k (closed frame k) (subst (λ z. Adds k z (closed frame k)) model adds)

-- a block in others is closed, and then these
closing-block : (deep n : ℕ) (frame : Frame) (k : Stack) (ps : List PieceForm) → length k ≤ n → Holds deep (frame ∷ k) ps → closes_there (frame_place frame) ≡ true → is_model (frame_place frame) ≡ false → ((next : Stack) (qs : List PieceForm) → length next ≤ n → Holds deep next qs → Closed deep qs) → Closed deep ps
closing-block deep n frame k ps len held c model go =
    closes-by deep frame k ps held c (λ h. go (closed frame k) (ps ++ closer frame ∷ []) (omega (arith, len, closed-no-higher deep frame k ps held c model)) h)

heads-closing : (deep : ℕ) (l : ℕ) (name : _) (hs : _) (k : Stack) (ps : List PieceForm) → Holds deep (frame_kind.Heads l name hs ∷ k) ps → Closed deep ps
heads-closing deep l name hs k ps held = closes-by deep (frame_kind.Heads l name hs) k ps held refl (λ h. ended deep k (record { line = l; name = name; heads = hs; tops = [] }) (ps ++ closer (frame_kind.Heads l name hs) ∷ []) h)

pub closing : (deep n : ℕ) (k : Stack) (ps : List PieceForm) → length k ≤ n → Holds deep k ps → Closed deep ps
unfolding role_at
closing deep n [] ps len held =
    let x : PieceForm = piece 0 (form_kind.Model (called.Named [])) in
    behind-one deep [] (frame_kind.Heads 0 (called.Named []) [] ∷ []) x ps held (step-role deep [] x Opens refl refl (block-fits deep 0 (omega arith))) (λ h. heads-closing deep 0 (called.Named []) [] [] (ps ++ x ∷ []) h)
closing deep n (frame_kind.Heads l name hs ∷ k) ps len held = heads-closing deep l name hs k ps held
closing deep n (frame_kind.Tops l name hs xs ∷ k) ps len held = closes-by deep (frame_kind.Tops l name hs xs) k ps held refl (λ h. ended deep k (record { line = l; name = name; heads = hs; tops = xs }) (ps ++ closer (frame_kind.Tops l name hs xs) ∷ []) h)
closing deep n (frame_kind.End tree ∷ k) ps len held = ended deep k tree ps held
closing deep zero (x ∷ k) ps len held = absurd (omega (arith, len))
closing deep (suc n) (frame_kind.Routine heading xs ∷ k) ps len held = closing-block deep n (frame_kind.Routine heading xs) k ps (omega (arith, len)) held (routine-closes heading.result) (routine-no-model heading.result) (λ next qs small h. closing deep n next qs small h)
closing deep (suc n) (frame_kind.Forall l index ∷ k) ps len held =
    behind-one deep (frame_kind.Forall l index ∷ k) (add_statement (statement_kind.Forall l index (statement_kind.Break 0)) k) break ps held (step-role deep (frame_kind.Forall l index ∷ k) break StandsAlone refl refl refl) (λ h. closing deep n (add_statement (statement_kind.Forall l index (statement_kind.Break 0)) k) (ps ++ break ∷ []) (omega (arith, len, no-higher k (statement_kind.Forall l index (statement_kind.Break 0)))) h)
closing deep (suc n) (frame_kind.While l c ∷ k) ps len held =
    behind-one deep (frame_kind.While l c ∷ k) (add_statement (statement_kind.While l c (statement_kind.Break 0)) k) break ps held (step-role deep (frame_kind.While l c ∷ k) break StandsAlone refl refl refl) (λ h. closing deep n (add_statement (statement_kind.While l c (statement_kind.Break 0)) k) (ps ++ break ∷ []) (omega (arith, len, no-higher k (statement_kind.While l c (statement_kind.Break 0)))) h)
closing deep (suc n) (frame_kind.CaseArm l v xs at labels ∷ k) ps len held =
    behind-one deep (frame_kind.CaseArm l v xs at labels ∷ k) (frame_kind.Case l v (xs ++ alternative_of at labels (statement_kind.Break 0) ∷ []) ∷ k) break ps held (step-role deep (frame_kind.CaseArm l v xs at labels ∷ k) break StandsAlone refl refl refl)
    (λ h. closing-block deep n (frame_kind.Case l v (xs ++ alternative_of at labels (statement_kind.Break 0) ∷ [])) k (ps ++ break ∷ []) (omega (arith, len)) h refl refl (λ next qs small g2. closing deep n next qs small g2))
closing deep (suc n) (frame ∷ k) ps len held = closing-block deep n frame k ps (omega (arith, len)) held refl refl (λ next qs small h. closing deep n next qs small h)

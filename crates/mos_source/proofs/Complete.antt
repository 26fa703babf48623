-- Each statement as it is written is read.

use Rattle.std.proofs.Common.{◌≡◌, ℕ, ◌+◌, ◌≤◌, true, List, [], ◌∷◌, ◌++◌, length, Some, refl, ◌∙◌, ap, arith}
use Rattle.std.proofs.lemmas.List.{append_assoc}
use Rattle.mos_tree.specs.declared.expr.Expr.{Expr}
use Rattle.mos_tree.specs.declared.statement.Statement.{Statement}
use Rattle.mos_tree.specs.declared.statement.Statement.TheVariants as statement_kind
use Rattle.mos_tree.specs.declared.statement.Arm.{Arm}
use Rattle.mos_tree.specs.declared.statement.Alternative.{Alternative}
use Rattle.mos_tree.specs.declared.statement.Direction.{Direction}
use Rattle.mos_tree.specs.declared.form.Form.TheVariants as form_kind
use Rattle.mos_tree.specs.declared.form.ConditionKeyword.TheVariants as conditional
use Rattle.mos_tree.specs.declared.form.Keyword.TheVariants as keyword
use Rattle.mos_tree.specs.declared.form.PieceKind.TheVariants as piece_kind
use Rattle.mos_tree.specs.declared.form.PieceForm.{PieceForm}
use Rattle.mos_source.specs.declared.frame.Frame.{Frame}
use Rattle.mos_source.specs.declared.frame.Frame.TheVariants as frame_kind
use Rattle.mos_source.specs.declared.place.Place.TheVariants as place_kind
use Rattle.mos_source.specs.declared.place.Role.TheVariants.{Opens, Continues, StandsAlone, Closes}
use Rattle.mos_tree.specs.Forms.{piece}
use Rattle.mos_source.specs.Places.{takes_statements, role_at}
use Rattle.mos_source.specs.Statements.{Rows, no_row, named, labelled, WrittenStatement, single, bare, if_, case_, forall_, while_, repeat_, do_, initializations, Block, no_statement, then_one, Arms, no_arm, arm, Last, without, otherwise, Alternatives, no_alternative, alternative, arm_form, spell_rows, spell, spell_block, spell_arms, spell_last, spell_alternatives, depth, depth_block, depth_arms, depth_last, depth_alternatives, label_groups, first_line, arm_of, tree, trees, trees_of_arms, trees_of_last, trees_of_alternatives}
use Rattle.mos_source.specs.Machine.{Stack, frame_place, place_of, add_statement, step, step_as, run}
use Rattle.mos_source.proofs.Roles.{ends}
use Rattle.mos_source.proofs.Steps.{Takes, role-of-statement, run-role, run-open, one-end, two-end}

-- ---- rows

reads-rows : (deep : ℕ) (rows : Rows) (k : Stack) (l : ℕ) (d : Direction) (e : Expr) (rest : List PieceForm) → run deep (frame_kind.Initializations l d e [] ∷ k) (spell_rows rows ++ rest) ≡ run deep (frame_kind.Initializations l d e (label_groups rows) ∷ k) rest
unfolding step step_as role_at
reads-rows deep no_row k l d e rest = refl
reads-rows deep (named rows line name) k l d e rest =
    ap (run deep (frame_kind.Initializations l d e [] ∷ k)) (one-end (spell_rows rows) (piece line (form_kind.Bare name)) rest)
    ∙ reads-rows deep rows k l d e (piece line (form_kind.Bare name) ∷ rest)
reads-rows deep (labelled rows line labels) k l d e rest =
    ap (run deep (frame_kind.Initializations l d e [] ∷ k)) (one-end (spell_rows rows) (piece line (form_kind.Labels labels)) rest)
    ∙ reads-rows deep rows k l d e (piece line (form_kind.Labels labels) ∷ rest)

-- ---- a block that takes statements one after the other

pub record IsFilled (fill : List Statement → Frame) : Type 0 where
  pub takes : (xs : List Statement) → takes_statements (frame_place (fill xs)) ≡ true
  pub adds : (k : Stack) (xs : List Statement) (x : Statement) → add_statement x (fill xs ∷ k) ≡ fill (xs ++ x ∷ []) ∷ k

filled-arm : (first : ℕ) (arms : List (Arm Statement)) (l : ℕ) (c : Expr) → IsFilled (λ xs. frame_kind.IfArm first arms l c xs)
filled-arm first arms l c = record { takes = λ xs. refl; adds = λ k xs x. refl }

filled-otherwise : (first : ℕ) (arms : List (Arm Statement)) → IsFilled (λ xs. frame_kind.IfElse first arms xs)
filled-otherwise first arms = record { takes = λ xs. refl; adds = λ k xs x. refl }

filled-case-else : (l : ℕ) (v : Expr) (ys : List (Alternative Statement)) → IsFilled (λ xs. frame_kind.CaseElse l v ys xs)
filled-case-else l v ys = record { takes = λ xs. refl; adds = λ k xs x. refl }

filled-repeat : (l : ℕ) → IsFilled (λ xs. frame_kind.Repeat l xs)
filled-repeat l = record { takes = λ xs. refl; adds = λ k xs x. refl }

filled-do : (l : ℕ) → IsFilled (λ xs. frame_kind.Do l xs)
filled-do l = record { takes = λ xs. refl; adds = λ k xs x. refl }

-- ---- statements

elif-goes : role_at place_kind.IfArm piece_kind.Elif ≡ Some Continues
unfolding role_at
elif-goes = refl

else-goes : role_at place_kind.IfArm piece_kind.Else ≡ Some Continues
unfolding role_at
else-goes = refl

alternative-goes : role_at place_kind.Case piece_kind.Alternative ≡ Some Continues
unfolding role_at
alternative-goes = refl

case-else-goes : role_at place_kind.Case piece_kind.Else ≡ Some Continues
unfolding role_at
case-else-goes = refl

mutual
  -- the pieces of a statement give it to the innermost block
  pub reads : (deep : ℕ) (w : WrittenStatement) (k : Stack) (rest : List PieceForm) → Takes k → depth w + length k ≤ deep + 1 → run deep k (spell w ++ rest) ≡ run deep (add_statement (tree w) k) rest
  reads deep (single line x) k rest t h = run-role deep k (piece line (form_kind.Simple x)) StandsAlone rest (role-of-statement (place_of k) piece_kind.Simple StandsAlone t refl) refl refl
  reads deep (bare line name) k rest t h = run-role deep k (piece line (form_kind.Bare name)) StandsAlone rest (role-of-statement (place_of k) piece_kind.Bare StandsAlone t refl) refl refl
  reads deep (if_ arms line condition b last end) k rest t h =
      ap (run deep k) (append_assoc (spell_arms arms) (piece line (arm_form arms condition) ∷ (spell_block b ++ (spell_last last ++ piece end (form_kind.Keyword keyword.EndIf) ∷ []))) rest ∙ ap (λ zs. spell_arms arms ++ piece line (arm_form arms condition) ∷ zs) (two-end (spell_block b) (spell_last last) (piece end (form_kind.Keyword keyword.EndIf)) rest))
      ∙ reads-arms deep arms line condition k (spell_block b ++ (spell_last last ++ piece end (form_kind.Keyword keyword.EndIf) ∷ rest)) t (omega (arith, h)) (omega (arith, h))
      ∙ reads-block deep b k (λ xs. frame_kind.IfArm (first_line arms line) (trees_of_arms arms) line condition xs) (filled-arm (first_line arms line) (trees_of_arms arms) line condition) (spell_last last ++ piece end (form_kind.Keyword keyword.EndIf) ∷ rest) (omega (arith, h))
      ∙ reads-last-arm deep last (first_line arms line) (trees_of_arms arms) line condition (trees b) end k rest (omega (arith, h))
  reads deep (case_ line value xs last end) k rest t h =
      run-open deep k line (form_kind.Guarded conditional.Case value) (frame_kind.Case line value []) ((spell_alternatives xs ++ (spell_last last ++ piece end (form_kind.Keyword keyword.EndCase) ∷ [])) ++ rest) (role-of-statement (place_of k) piece_kind.Case Opens t refl) refl refl (omega (arith, h))
      ∙ ap (run deep (frame_kind.Case line value [] ∷ k)) (two-end (spell_alternatives xs) (spell_last last) (piece end (form_kind.Keyword keyword.EndCase)) rest)
      ∙ reads-alternatives deep xs line value k (spell_last last ++ piece end (form_kind.Keyword keyword.EndCase) ∷ rest) (omega (arith, h))
      ∙ reads-last-case deep last line value (trees_of_alternatives xs) end k rest (omega (arith, h))
  reads deep (forall_ line index body) k rest t h =
      run-open deep k line (form_kind.Forall index) (frame_kind.Forall line index) (spell body ++ rest) (role-of-statement (place_of k) piece_kind.Forall Opens t refl) refl refl (omega (arith, h))
      ∙ reads deep body (frame_kind.Forall line index ∷ k) rest refl (omega (arith, h))
  reads deep (while_ line condition body) k rest t h =
      run-open deep k line (form_kind.Guarded conditional.While condition) (frame_kind.While line condition) (spell body ++ rest) (role-of-statement (place_of k) piece_kind.While Opens t refl) refl refl (omega (arith, h))
      ∙ reads deep body (frame_kind.While line condition ∷ k) rest refl (omega (arith, h))
  reads deep (repeat_ line b until condition) k rest t h =
      run-open deep k line (form_kind.Keyword keyword.Repeat) (frame_kind.Repeat line []) ((spell_block b ++ piece until (form_kind.Guarded conditional.Until condition) ∷ []) ++ rest) (role-of-statement (place_of k) piece_kind.Repeat Opens t refl) refl refl (omega (arith, h))
      ∙ ap (run deep (frame_kind.Repeat line [] ∷ k)) (one-end (spell_block b) (piece until (form_kind.Guarded conditional.Until condition)) rest)
      ∙ reads-block deep b k (λ xs. frame_kind.Repeat line xs) (filled-repeat line) (piece until (form_kind.Guarded conditional.Until condition) ∷ rest) (omega (arith, h))
      ∙ run-role deep (frame_kind.Repeat line (trees b) ∷ k) (piece until (form_kind.Guarded conditional.Until condition)) Closes rest (ends place_kind.Repeat refl) refl refl
  reads deep (do_ line b end) k rest t h =
      run-open deep k line (form_kind.Keyword keyword.Do) (frame_kind.Do line []) ((spell_block b ++ piece end (form_kind.Keyword keyword.EndDo) ∷ []) ++ rest) (role-of-statement (place_of k) piece_kind.Do Opens t refl) refl refl (omega (arith, h))
      ∙ ap (run deep (frame_kind.Do line [] ∷ k)) (one-end (spell_block b) (piece end (form_kind.Keyword keyword.EndDo)) rest)
      ∙ reads-block deep b k (λ xs. frame_kind.Do line xs) (filled-do line) (piece end (form_kind.Keyword keyword.EndDo) ∷ rest) (omega (arith, h))
      ∙ run-role deep (frame_kind.Do line (trees b) ∷ k) (piece end (form_kind.Keyword keyword.EndDo)) Closes rest (ends place_kind.Do refl) refl refl
  reads deep (initializations line direction name rows end) k rest t h =
      run-open deep k line (form_kind.Initializations direction name) (frame_kind.Initializations line direction name []) ((spell_rows rows ++ piece end (form_kind.Keyword keyword.EndInitializations) ∷ []) ++ rest) (role-of-statement (place_of k) piece_kind.Initializations Opens t refl) refl refl (omega (arith, h))
      ∙ ap (run deep (frame_kind.Initializations line direction name [] ∷ k)) (one-end (spell_rows rows) (piece end (form_kind.Keyword keyword.EndInitializations)) rest)
      ∙ reads-rows deep rows k line direction name (piece end (form_kind.Keyword keyword.EndInitializations) ∷ rest)
      ∙ run-role deep (frame_kind.Initializations line direction name (label_groups rows) ∷ k) (piece end (form_kind.Keyword keyword.EndInitializations)) Closes rest (ends place_kind.Initializations refl) refl refl

  reads-block : (deep : ℕ) (b : Block) (k : Stack) (fill : List Statement → Frame) → IsFilled fill → (rest : List PieceForm) → depth_block b + length k ≤ deep → run deep (fill [] ∷ k) (spell_block b ++ rest) ≡ run deep (fill (trees b) ∷ k) rest
  reads-block deep no_statement k fill is rest h = refl
  reads-block deep (then_one b w) k fill is rest h =
      ap (run deep (fill [] ∷ k)) (append_assoc (spell_block b) (spell w) rest)
      ∙ reads-block deep b k fill is (spell w ++ rest) (omega (arith, h))
      ∙ reads deep w (fill (trees b) ∷ k) rest (is.takes (trees b)) (omega (arith, h))
      ∙ ap (λ z. run deep z rest) (is.adds k (trees b) (tree w))

  -- up to the piece that begins an arm behind these
  reads-arms : (deep : ℕ) (arms : Arms) (line : ℕ) (condition : Expr) (k : Stack) (rest : List PieceForm) → Takes k → depth_arms arms + length k ≤ deep → length k ≤ deep → run deep k (spell_arms arms ++ piece line (arm_form arms condition) ∷ rest) ≡ run deep (frame_kind.IfArm (first_line arms line) (trees_of_arms arms) line condition [] ∷ k) rest
  reads-arms deep no_arm line condition k rest t h n =
      run-open deep k line (form_kind.Guarded conditional.If condition) (frame_kind.IfArm line [] line condition []) rest (role-of-statement (place_of k) piece_kind.If Opens t refl) refl refl n
  reads-arms deep (arm before l c b) line condition k rest t h n =
      ap (run deep k) (append_assoc (spell_arms before) (piece l (arm_form before c) ∷ spell_block b) (piece line (form_kind.Guarded conditional.Elif condition) ∷ rest))
      ∙ reads-arms deep before l c k (spell_block b ++ piece line (form_kind.Guarded conditional.Elif condition) ∷ rest) t (omega (arith, h)) n
      ∙ reads-block deep b k (λ xs. frame_kind.IfArm (first_line before l) (trees_of_arms before) l c xs) (filled-arm (first_line before l) (trees_of_arms before) l c) (piece line (form_kind.Guarded conditional.Elif condition) ∷ rest) (omega (arith, h))
      ∙ run-role deep (frame_kind.IfArm (first_line before l) (trees_of_arms before) l c (trees b) ∷ k) (piece line (form_kind.Guarded conditional.Elif condition)) Continues rest elif-goes refl refl

  -- behind the last arm
  reads-last-arm : (deep : ℕ) (last : Last) (first : ℕ) (arms : List (Arm Statement)) (l : ℕ) (c : Expr) (body : List Statement) (end : ℕ) (k : Stack) (rest : List PieceForm) → depth_last last + length k ≤ deep → run deep (frame_kind.IfArm first arms l c body ∷ k) (spell_last last ++ piece end (form_kind.Keyword keyword.EndIf) ∷ rest) ≡ run deep (add_statement (statement_kind.If first (arms ++ arm_of l c body ∷ []) (trees_of_last last)) k) rest
  reads-last-arm deep without first arms l c body end k rest h = run-role deep (frame_kind.IfArm first arms l c body ∷ k) (piece end (form_kind.Keyword keyword.EndIf)) Closes rest (ends place_kind.IfArm refl) refl refl
  reads-last-arm deep (otherwise line b) first arms l c body end k rest h =
      run-role deep (frame_kind.IfArm first arms l c body ∷ k) (piece line (form_kind.Keyword keyword.Else)) Continues (spell_block b ++ piece end (form_kind.Keyword keyword.EndIf) ∷ rest) else-goes refl refl
      ∙ reads-block deep b k (λ xs. frame_kind.IfElse first (arms ++ arm_of l c body ∷ []) xs) (filled-otherwise first (arms ++ arm_of l c body ∷ [])) (piece end (form_kind.Keyword keyword.EndIf) ∷ rest) h
      ∙ run-role deep (frame_kind.IfElse first (arms ++ arm_of l c body ∷ []) (trees b) ∷ k) (piece end (form_kind.Keyword keyword.EndIf)) Closes rest (ends place_kind.IfElse refl) refl refl

  reads-alternatives : (deep : ℕ) (xs : Alternatives) (line : ℕ) (value : Expr) (k : Stack) (rest : List PieceForm) → depth_alternatives xs + length k ≤ deep → run deep (frame_kind.Case line value [] ∷ k) (spell_alternatives xs ++ rest) ≡ run deep (frame_kind.Case line value (trees_of_alternatives xs) ∷ k) rest
  reads-alternatives deep no_alternative line value k rest h = refl
  reads-alternatives deep (alternative before l labels w) line value k rest h =
      ap (run deep (frame_kind.Case line value [] ∷ k)) (append_assoc (spell_alternatives before) (piece l (form_kind.Alternative labels) ∷ spell w) rest)
      ∙ reads-alternatives deep before line value k (piece l (form_kind.Alternative labels) ∷ (spell w ++ rest)) (omega (arith, h))
      ∙ run-role deep (frame_kind.Case line value (trees_of_alternatives before) ∷ k) (piece l (form_kind.Alternative labels)) Continues (spell w ++ rest) alternative-goes refl refl
      ∙ reads deep w (frame_kind.CaseArm line value (trees_of_alternatives before) l labels ∷ k) rest refl (omega (arith, h))

  -- behind the last alternative
  reads-last-case : (deep : ℕ) (last : Last) (line : ℕ) (value : Expr) (ys : List (Alternative Statement)) (end : ℕ) (k : Stack) (rest : List PieceForm) → depth_last last + length k ≤ deep → run deep (frame_kind.Case line value ys ∷ k) (spell_last last ++ piece end (form_kind.Keyword keyword.EndCase) ∷ rest) ≡ run deep (add_statement (statement_kind.Case line value ys (trees_of_last last)) k) rest
  reads-last-case deep without line value ys end k rest h = run-role deep (frame_kind.Case line value ys ∷ k) (piece end (form_kind.Keyword keyword.EndCase)) Closes rest (ends place_kind.Case refl) refl refl
  reads-last-case deep (otherwise l b) line value ys end k rest h =
      run-role deep (frame_kind.Case line value ys ∷ k) (piece l (form_kind.Keyword keyword.Else)) Continues (spell_block b ++ piece end (form_kind.Keyword keyword.EndCase) ∷ rest) case-else-goes refl refl
      ∙ reads-block deep b k (λ xs. frame_kind.CaseElse line value ys xs) (filled-case-else line value ys) (piece end (form_kind.Keyword keyword.EndCase) ∷ rest) h
      ∙ run-role deep (frame_kind.CaseElse line value ys (trees b) ∷ k) (piece end (form_kind.Keyword keyword.EndCase)) Closes rest (ends place_kind.CaseElse refl) refl refl

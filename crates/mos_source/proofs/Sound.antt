-- What was read holds of a stack that is given a part.

use Rattle.std.proofs.Common.{◌≡◌, ℕ, ◌+◌, ◌≤◌, List, [], ◌∷◌, ◌++◌, length, map, true, refl, sym, ◌∙◌, ap, subst, arith}
use Rattle.std.proofs.lemmas.List.{append_assoc}
use Rattle.mos_tree.specs.declared.declaration.Item.{Item}
use Rattle.mos_tree.specs.declared.declaration.Item.TheVariants as item_kind
use Rattle.mos_tree.specs.declared.declaration.FieldGroup.{FieldGroup}
use Rattle.mos_tree.specs.declared.source.ModelName.{ModelName}
use Rattle.mos_tree.specs.declared.source.Head.{Head}
use Rattle.mos_tree.specs.declared.source.Top.{Top}
use Rattle.mos_tree.specs.declared.source.Top.TheVariants as top
use Rattle.mos_tree.specs.declared.statement.Statement.TheVariants as statement_kind
use Rattle.mos_tree.specs.declared.source.RoutinePart.TheVariants as routine_part
use Rattle.mos_tree.specs.declared.form.Form.TheVariants as form_kind
use Rattle.mos_tree.specs.declared.form.ConditionKeyword.TheVariants as conditional
use Rattle.mos_tree.specs.declared.form.Keyword.TheVariants as keyword
use Rattle.mos_tree.specs.declared.form.PieceForm.{PieceForm}
use Rattle.mos_source.specs.declared.frame.Frame.{Frame}
use Rattle.mos_source.specs.declared.frame.Frame.TheVariants as frame_kind
use Rattle.mos_source.specs.declared.frame.Part.TheVariants as part
use Rattle.mos_tree.specs.Forms.{piece}
use Rattle.mos_source.specs.Statements.{WrittenStatement, forall_, while_, then_one, alternative, arm_form, spell, spell_block, spell_arms, spell_alternatives, depth, alternative_of, tree}
use Rattle.mos_source.specs.Sources.{Items, record_type, declares, states, Tops, no_top, declares_top, states_top, spell_field, spell_declarations, spell_tops, spell_head, depth_items, depth_tops, items_of, tops_of}
use Rattle.mos_source.specs.Places.{takes_statements}
use Rattle.mos_source.specs.Machine.{Stack, place_of, add_statement, add_other}
use Rattle.mos_source.proofs.Steps.{one-end}
use Rattle.mos_source.proofs.Held.{is_model, takes_declarations, is_declarations, no-model, no-declarations, HeldOwn, Holds}

pub respelled : (deep : ℕ) (k : Stack) (a b : List PieceForm) → a ≡ b → Holds deep k a → Holds deep k b
respelled deep k a b e h = subst (λ ps. Holds deep k ps) e h

-- what is held of a block that is open in others
abbrev pub HeldOver : ℕ → Frame → Stack → List PieceForm → Type 0
HeldOver deep frame k pieces = (before : List PieceForm) × (own : List PieceForm) × Holds deep k before × (pieces ≡ before ++ own) × HeldOwn deep frame k own

-- a block goes on
pub over-more : (deep : ℕ) (frame next : Frame) (k : Stack) (pieces more : List PieceForm) → (h : HeldOver deep frame k pieces) → HeldOwn deep next k (h.1 ++ more) → HeldOver deep next k (pieces ++ more)
over-more deep frame next k pieces more h own = (h.0, h.1 ++ more, h.2, ap (λ z. z ++ more) h.3 ∙ append_assoc h.0 h.1 more, own)

-- ---- a statement more

pub added : (deep : ℕ) (k : Stack) (before : List PieceForm) (w : WrittenStatement) → Holds deep k before → depth w + length k ≤ deep + 1 → takes_statements (place_of k) ≡ true → Holds deep (add_statement (tree w) k) (before ++ spell w)
added deep [] before w h d e = let no : ⊥ = cc in absurd no
added deep (frame_kind.Heads l name hs ∷ k) before w h d e =
    record { alone = h.alone; allowed = h.allowed; tops = states_top no_top w; are = refl; fits = omega (arith, d); exact = rw h.exact refl }
added deep (frame_kind.Tops l name hs xs ∷ k) before w h d e =
    record {
      alone = h.alone;
      allowed = h.allowed;
      tops = states_top h.tops w;
      are = ap (λ z. z ++ top.Statement (tree w) ∷ []) h.are;
      fits = omega (arith, d, h.fits);
      exact = rw h.exact (ap (λ z. piece l (form_kind.Model name) ∷ z) (append_assoc (map spell_head hs) (spell_tops h.tops) (spell w)));
    }
added deep (frame_kind.Routine heading xs ∷ k) before w h d e =
    over-more deep (frame_kind.Routine heading xs) (frame_kind.Routine heading (xs ++ routine_part.Statement (tree w) ∷ [])) k before (spell w) h
    (record { there = h.4.there; parts = states h.4.parts w; are = ap (λ z. z ++ routine_part.Statement (tree w) ∷ []) h.4.are; fits = omega (arith, d, h.4.fits); exact = rw h.4.exact refl })
added deep (frame_kind.IfArm first arms l c body ∷ k) before w h d e =
    over-more deep (frame_kind.IfArm first arms l c body) (frame_kind.IfArm first arms l c (body ++ tree w ∷ [])) k before (spell w) h
    (record {
      there = h.4.there;
      before = h.4.before;
      block = then_one h.4.block w;
      line = h.4.line;
      are = h.4.are;
      body_is = ap (λ z. z ++ tree w ∷ []) h.4.body_is;
      fits = h.4.fits;
      fits_body = omega (arith, d, h.4.fits_body);
      exact = rw h.4.exact (append_assoc (spell_arms h.4.before) (piece l (arm_form h.4.before c) ∷ spell_block h.4.block) (spell w));
    })
added deep (frame_kind.IfElse first arms body ∷ k) before w h d e =
    over-more deep (frame_kind.IfElse first arms body) (frame_kind.IfElse first arms (body ++ tree w ∷ [])) k before (spell w) h
    (record {
      there = h.4.there;
      before = h.4.before;
      last = h.4.last;
      condition = h.4.condition;
      guarded = h.4.guarded;
      at = h.4.at;
      block = then_one h.4.block w;
      line = h.4.line;
      are = h.4.are;
      body_is = ap (λ z. z ++ tree w ∷ []) h.4.body_is;
      fits = h.4.fits;
      fits_guarded = h.4.fits_guarded;
      fits_body = omega (arith, d, h.4.fits_body);
      exact = rw h.4.exact (append_assoc (spell_arms h.4.before ++ piece h.4.last (arm_form h.4.before h.4.condition) ∷ spell_block h.4.guarded) (piece h.4.at (form_kind.Keyword keyword.Else) ∷ spell_block h.4.block) (spell w));
    })
added deep (frame_kind.CaseArm l v xs at labels ∷ k) before w h d e =
    over-more deep (frame_kind.CaseArm l v xs at labels) (frame_kind.Case l v (xs ++ alternative_of at labels (tree w) ∷ [])) k before (spell w) h
    (record {
      there = h.4.there;
      alternatives = alternative h.4.alternatives at labels w;
      are = ap (λ z. z ++ alternative_of at labels (tree w) ∷ []) h.4.are;
      fits = omega (arith, d, h.4.fits);
      exact = rw h.4.exact (ap (λ z. piece l (form_kind.Guarded conditional.Case v) ∷ z) (one-end (spell_alternatives h.4.alternatives) (piece at (form_kind.Alternative labels)) (spell w)));
    })
added deep (frame_kind.CaseElse l v xs body ∷ k) before w h d e =
    over-more deep (frame_kind.CaseElse l v xs body) (frame_kind.CaseElse l v xs (body ++ tree w ∷ [])) k before (spell w) h
    (record {
      there = h.4.there;
      alternatives = h.4.alternatives;
      at = h.4.at;
      block = then_one h.4.block w;
      are = h.4.are;
      body_is = ap (λ z. z ++ tree w ∷ []) h.4.body_is;
      fits = h.4.fits;
      fits_body = omega (arith, d, h.4.fits_body);
      exact = rw h.4.exact (ap (λ z. piece l (form_kind.Guarded conditional.Case v) ∷ z) (append_assoc (spell_alternatives h.4.alternatives) (piece h.4.at (form_kind.Keyword keyword.Else) ∷ spell_block h.4.block) (spell w)));
    })
added deep (frame_kind.Forall l index ∷ k) before w h d e =
    respelled deep (add_statement (statement_kind.Forall l index (tree w)) k) (h.0 ++ piece l (form_kind.Forall index) ∷ spell w) (before ++ spell w)
    (sym (ap (λ z. z ++ spell w) (h.3 ∙ ap (λ o. h.0 ++ o) h.4.exact) ∙ one-end h.0 (piece l (form_kind.Forall index)) (spell w)))
    (added deep k h.0 (forall_ l index w) h.2 (omega (arith, d)) h.4.there)
added deep (frame_kind.While l c ∷ k) before w h d e =
    respelled deep (add_statement (statement_kind.While l c (tree w)) k) (h.0 ++ piece l (form_kind.Guarded conditional.While c) ∷ spell w) (before ++ spell w)
    (sym (ap (λ z. z ++ spell w) (h.3 ∙ ap (λ o. h.0 ++ o) h.4.exact) ∙ one-end h.0 (piece l (form_kind.Guarded conditional.While c)) (spell w)))
    (added deep k h.0 (while_ l c w) h.2 (omega (arith, d)) h.4.there)
added deep (frame_kind.Repeat l body ∷ k) before w h d e =
    over-more deep (frame_kind.Repeat l body) (frame_kind.Repeat l (body ++ tree w ∷ [])) k before (spell w) h
    (record { there = h.4.there; block = then_one h.4.block w; body_is = ap (λ z. z ++ tree w ∷ []) h.4.body_is; fits = omega (arith, d, h.4.fits); exact = rw h.4.exact refl })
added deep (frame_kind.Do l body ∷ k) before w h d e =
    over-more deep (frame_kind.Do l body) (frame_kind.Do l (body ++ tree w ∷ [])) k before (spell w) h
    (record { there = h.4.there; block = then_one h.4.block w; body_is = ap (λ z. z ++ tree w ∷ []) h.4.body_is; fits = omega (arith, d, h.4.fits); exact = rw h.4.exact refl })
added deep (_ ∷ k) before w h d e = let no : ⊥ = cc in absurd no

-- ---- another part more

-- a part of a model that is put behind what stands there
pub record IsTop (deep : ℕ) (make : Tops → Tops) (x : Top) (ps : List PieceForm) : Type 0 where
  pub are : (xs : Tops) → tops_of (make xs) ≡ tops_of xs ++ x ∷ []
  pub spelled : (xs : Tops) → spell_tops (make xs) ≡ spell_tops xs ++ ps
  pub fits : (xs : Tops) → depth_tops xs ≤ deep → depth_tops (make xs) ≤ deep

topped : (deep : ℕ) (l : ℕ) (name : ModelName) (hs : List Head) (xs : List Top) (k : Stack) (before : List PieceForm) (make : Tops → Tops) (x : Top) (ps : List PieceForm) → IsTop deep make x ps → Holds deep (frame_kind.Tops l name hs xs ∷ k) before → Holds deep (frame_kind.Tops l name hs (xs ++ x ∷ []) ∷ k) (before ++ ps)
topped deep l name hs xs k before make x ps is h = record {
  alone = h.alone;
  allowed = h.allowed;
  tops = make h.tops;
  are = ap (λ z. z ++ x ∷ []) h.are ∙ sym (is.are h.tops);
  fits = is.fits h.tops h.fits;
  exact = rw h.exact (ap (λ z. piece l (form_kind.Model name) ∷ z) (append_assoc (map spell_head hs) (spell_tops h.tops) ps ∙ ap (λ z. map spell_head hs ++ z) (sym (is.spelled h.tops))));
}

first-topped : (deep : ℕ) (l : ℕ) (name : ModelName) (hs : List Head) (k : Stack) (before : List PieceForm) (make : Tops → Tops) (x : Top) (ps : List PieceForm) → IsTop deep make x ps → Holds deep (frame_kind.Heads l name hs ∷ k) before → Holds deep (frame_kind.Tops l name hs (x ∷ []) ∷ k) (before ++ ps)
first-topped deep l name hs k before make x ps is h = record {
  alone = h.alone;
  allowed = h.allowed;
  tops = make no_top;
  are = sym (is.are no_top);
  fits = is.fits no_top (omega arith);
  exact = rw h.exact (ap (λ z. piece l (form_kind.Model name) ∷ (map spell_head hs ++ z)) (sym (is.spelled no_top)));
}

pub added-top : (deep : ℕ) (k : Stack) (before : List PieceForm) (make : Tops → Tops) (x : Top) (ps : List PieceForm) → IsTop deep make x ps → Holds deep k before → is_model (place_of k) ≡ true → Holds deep (add_other (part.Top x) k) (before ++ ps)
added-top deep [] before make x ps is h e = let no : ⊥ = cc in absurd no
added-top deep (frame_kind.Heads l name hs ∷ k) before make x ps is h e = first-topped deep l name hs k before make x ps is h
added-top deep (frame_kind.Tops l name hs xs ∷ k) before make x ps is h e = topped deep l name hs xs k before make x ps is h
added-top deep (frame_kind.Routine heading xs ∷ k) before make x ps is h e = absurd (no-model heading.result e)
added-top deep (_ ∷ k) before make x ps is h e = let no : ⊥ = cc in absurd no

is-declared : (deep line : ℕ) (all : List Item) (items : Items) (end : ℕ) → all ≡ items_of items → 1 + depth_items items ≤ deep → IsTop deep (λ xs. declares_top xs line items end) (top.Declarations (record { line = line; items = all })) (spell_declarations line items end)
is-declared deep line all items end are d = record { are = λ xs. rw are refl; spelled = λ xs. refl; fits = λ xs h. omega (arith, h, d) }

pub added-declared : (deep : ℕ) (k : Stack) (before : List PieceForm) (line : ℕ) (all : List Item) (items : Items) (end : ℕ) → all ≡ items_of items → Holds deep k before → depth_items items + length k ≤ deep → takes_declarations (place_of k) ≡ true → Holds deep (add_other (part.Declared (record { line = line; items = all })) k) (before ++ spell_declarations line items end)
added-declared deep [] before line all items end are h d e = let no : ⊥ = cc in absurd no
added-declared deep (frame_kind.Heads l name hs ∷ k) before line all items end are h d e =
    first-topped deep l name hs k before (λ xs. declares_top xs line items end) (top.Declarations (record { line = line; items = all })) (spell_declarations line items end) (is-declared deep line all items end are (omega (arith, d))) h
added-declared deep (frame_kind.Tops l name hs xs ∷ k) before line all items end are h d e =
    topped deep l name hs xs k before (λ xs. declares_top xs line items end) (top.Declarations (record { line = line; items = all })) (spell_declarations line items end) (is-declared deep line all items end are (omega (arith, d))) h
added-declared deep (frame_kind.Routine heading xs ∷ k) before line all items end are h d e =
    over-more deep (frame_kind.Routine heading xs) (frame_kind.Routine heading (xs ++ routine_part.Declarations (record { line = line; items = all }) ∷ [])) k before (spell_declarations line items end) h
    (record { there = h.4.there; parts = declares h.4.parts line items end; are = rw (h.4.are, are) refl; fits = omega (arith, d, h.4.fits); exact = rw h.4.exact refl })
added-declared deep (_ ∷ k) before line all items end are h d e = let no : ⊥ = cc in absurd no

pub added-record : (deep : ℕ) (k : Stack) (before : List PieceForm) (line : ℕ) (name : List ℕ) (fields : List FieldGroup) (end : ℕ) → Holds deep k before → length k ≤ deep → is_declarations (place_of k) ≡ true → Holds deep (add_other (part.Record (item_kind.Record line name fields)) k) (before ++ piece line (form_kind.RecordOf name) ∷ (map spell_field fields ++ piece end (form_kind.Keyword keyword.EndRecord) ∷ []))
added-record deep [] before line name fields end h d e = let no : ⊥ = cc in absurd no
added-record deep (frame_kind.Declarations l xs ∷ k) before line name fields end h d e =
    over-more deep (frame_kind.Declarations l xs) (frame_kind.Declarations l (xs ++ item_kind.Record line name fields ∷ [])) k before (piece line (form_kind.RecordOf name) ∷ (map spell_field fields ++ piece end (form_kind.Keyword keyword.EndRecord) ∷ [])) h
    (record { there = h.4.there; items = record_type h.4.items line name fields end; are = ap (λ z. z ++ item_kind.Record line name fields ∷ []) h.4.are; fits = omega (arith, d, h.4.fits); exact = rw h.4.exact refl })
added-record deep (frame_kind.Routine heading xs ∷ k) before line name fields end h d e = absurd (no-declarations heading.result e)
added-record deep (_ ∷ k) before line name fields end h d e = let no : ⊥ = cc in absurd no

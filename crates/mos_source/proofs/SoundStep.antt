-- What was read holds behind each piece.

use Rattle.std.proofs.Common.{◌≡◌, ℕ, ◌+◌, ◌≤◌, Bool, true, false, cond, List, [], ◌∷◌, ◌++◌, length, map, Option, Some, None, Ok, refl, sym, ◌∙◌, ap, subst, arith}
use Rattle.std.specs.Prelude.{nat_lt}
use Rattle.std.proofs.lemmas.Bool.{ltb-false}
use Rattle.std.proofs.lemmas.List.{append_assoc, append-nil, map-append}
use Rattle.std.proofs.lemmas.Slice.Eq.{bytes_eq-Decides}
use Rattle.mos_text.specs.declared.kind.Kind.{Kind}
use Rattle.mos_text.specs.declared.kind.Kind.TheVariants as kind
use Rattle.mos_tree.specs.declared.expr.Expr.{Expr}
use Rattle.mos_tree.specs.declared.declaration.Parameter.{Parameter}
use Rattle.mos_tree.specs.declared.declaration.FieldGroup.{FieldGroup}
use Rattle.mos_tree.specs.declared.declaration.Item.{Item}
use Rattle.mos_tree.specs.declared.declaration.Item.TheVariants as item_kind
use Rattle.mos_tree.specs.declared.declaration.Heading.{Heading}
use Rattle.mos_tree.specs.declared.source.ModelName.{ModelName}
use Rattle.mos_tree.specs.declared.source.Head.{Head}
use Rattle.mos_tree.specs.declared.source.Head.TheVariants as head_kind
use Rattle.mos_tree.specs.declared.source.RoutinePart.{RoutinePart}
use Rattle.mos_tree.specs.declared.source.Top.{Top}
use Rattle.mos_tree.specs.declared.source.Top.TheVariants as top
use Rattle.mos_tree.specs.declared.statement.Statement.{Statement}
use Rattle.mos_tree.specs.declared.statement.Statement.TheVariants as statement_kind
use Rattle.mos_tree.specs.declared.statement.Alternative.{Alternative}
use Rattle.mos_tree.specs.declared.statement.LabelGroup.{LabelGroup}
use Rattle.mos_tree.specs.declared.form.Form.{Form}
use Rattle.mos_tree.specs.declared.form.Form.TheVariants as form_kind
use Rattle.mos_tree.specs.declared.form.ConditionKeyword.TheVariants as conditional
use Rattle.mos_tree.specs.declared.form.Keyword.TheVariants as keyword
use Rattle.mos_tree.specs.declared.form.PieceForm.{PieceForm}
use Rattle.mos_source.specs.declared.frame.Frame.{Frame}
use Rattle.mos_source.specs.declared.frame.Frame.TheVariants as frame_kind
use Rattle.mos_source.specs.declared.frame.Part.TheVariants as part
use Rattle.mos_source.specs.declared.place.Place.TheVariants as place_kind
use Rattle.mos_source.specs.declared.place.Role.{Role}
use Rattle.mos_source.specs.declared.place.Role.TheVariants.{Opens, Continues, StandsAlone, Closes}
use Rattle.mos_tree.specs.Forms.{piece, piece_kind_of}
use Rattle.mos_source.specs.Limits.{own_limit, module_limit, is_jobs, is_no_implicit}
use Rattle.mos_source.specs.Places.{takes_statements, role_at}
use Rattle.mos_source.specs.Statements.{no_row, named, labelled, WrittenStatement, single, bare, if_, case_, repeat_, do_, initializations, no_statement, no_arm, arm, without, otherwise, no_alternative, arm_form, spell, spell_block, spell_arms, spell_alternatives, depth, arm_of, tree}
use Rattle.mos_source.specs.Sources.{no_item, constant, variables, Parts, no_part, Tops, no_top, sets, defines, announces, spell_parameter, spell_field, spell_declarations, spell_parts, heading_form, end_form, spell_tops, spell_head, no_implicit, jobs_module, depth_parts, depth_tops, AreModules, IsAllowed, AreAllowed, parts_of, tops_of}
use Rattle.mos_source.specs.Machine.{Stack, frame_place, place_of, push_frame, opened_by, stands_alone, continued_by, until, add, add_statement, add_other, close, enter, block_limit, or_block, broken_limit, outcome, step_as, step_in, step}
use Rattle.mos_source.proofs.Held.{is_model, HeldOwn, Holds}
use Rattle.mos_source.proofs.Roles.{opens_at, opens-there, starts, routine-there, stands_at, stands-there, no-routine, closes-word, closes-repeat, closes-routine, none-closes, none-goes, goes_on, goes-there}
use Rattle.mos_source.proofs.Sound.{respelled, HeldOver, over-more, added, IsTop, added-top, added-declared, added-record}

-- ---- a piece that opens

opens-over : (deep : ℕ) (k : Stack) (frame : Frame) (ps : List PieceForm) (x : PieceForm) → Holds deep k ps → HeldOwn deep frame k (x ∷ []) → HeldOver deep frame k (ps ++ x ∷ [])
opens-over deep k frame ps x h own = (ps, x ∷ [], h, refl, own)

pub sound-opens : (deep : ℕ) (k : Stack) (line : ℕ) (form : Form) (ps : List PieceForm) → Holds deep k ps → opens_at (piece_kind_of form) (place_of k) ≡ true → own_limit form ≡ None → length k ≤ deep → Holds deep (push_frame (opened_by line form) k) (ps ++ piece line form ∷ [])
sound-opens deep k line (form_kind.Model name) ps h o l d =
    let none : k ≡ [] = starts k o in
    let empty : ps ≡ [] = subst (λ z. Holds deep z ps) none h in
    record { alone = none; allowed = tt; exact = rw empty refl }
sound-opens deep k line (form_kind.Keyword keyword.Parameters) ps h o l d =
    opens-over deep k (frame_kind.Parameters line []) ps (piece line (form_kind.Keyword keyword.Parameters)) h (record { there = o; fits = d; exact = refl })
sound-opens deep k line (form_kind.Keyword keyword.Declarations) ps h o l d =
    opens-over deep k (frame_kind.Declarations line []) ps (piece line (form_kind.Keyword keyword.Declarations)) h (record { there = o; items = no_item; are = refl; fits = omega (arith, d); exact = refl })
sound-opens deep k line (form_kind.RecordOf name) ps h o l d =
    opens-over deep k (frame_kind.Record line name []) ps (piece line (form_kind.RecordOf name)) h (record { there = o; fits = d; exact = refl })
sound-opens deep k line (form_kind.Routine name formals result) ps h o l d =
    let heading : Heading = record { line = line; name = name; formals = formals; result = result } in
    opens-over deep k (frame_kind.Routine heading []) ps (piece line (form_kind.Routine name formals result)) h (record { there = routine-there (place_of k) result o; parts = no_part; are = refl; fits = omega (arith, d); exact = refl })
sound-opens deep k line (form_kind.Guarded conditional.If c) ps h o l d =
    opens-over deep k (frame_kind.IfArm line [] line c []) ps (piece line (form_kind.Guarded conditional.If c)) h (record { there = o; before = no_arm; block = no_statement; line = refl; are = refl; body_is = refl; fits = omega (arith, d); fits_body = omega (arith, d); exact = refl })
sound-opens deep k line (form_kind.Guarded conditional.Case v) ps h o l d =
    opens-over deep k (frame_kind.Case line v []) ps (piece line (form_kind.Guarded conditional.Case v)) h (record { there = o; alternatives = no_alternative; are = refl; fits = omega (arith, d); exact = refl })
sound-opens deep k line (form_kind.Forall index) ps h o l d =
    opens-over deep k (frame_kind.Forall line index) ps (piece line (form_kind.Forall index)) h (record { there = o; fits = d; exact = refl })
sound-opens deep k line (form_kind.Guarded conditional.While c) ps h o l d =
    opens-over deep k (frame_kind.While line c) ps (piece line (form_kind.Guarded conditional.While c)) h (record { there = o; fits = d; exact = refl })
sound-opens deep k line (form_kind.Keyword keyword.Repeat) ps h o l d =
    opens-over deep k (frame_kind.Repeat line []) ps (piece line (form_kind.Keyword keyword.Repeat)) h (record { there = o; block = no_statement; body_is = refl; fits = omega (arith, d); exact = refl })
sound-opens deep k line (form_kind.Keyword keyword.Do) ps h o l d =
    opens-over deep k (frame_kind.Do line []) ps (piece line (form_kind.Keyword keyword.Do)) h (record { there = o; block = no_statement; body_is = refl; fits = omega (arith, d); exact = refl })
sound-opens deep k line (form_kind.Initializations direction name) ps h o l d =
    opens-over deep k (frame_kind.Initializations line direction name []) ps (piece line (form_kind.Initializations direction name)) h (record { there = o; rows = no_row; are = refl; fits = d; exact = refl })
sound-opens deep k line _ ps h o l d = let no : ⊥ = cc in absurd no

-- ---- a piece that goes on

allowed-more : (xs : List Head) (x : Head) → AreAllowed xs → IsAllowed x → AreAllowed (xs ++ x ∷ [])
allowed-more [] x a b = (b, tt)
allowed-more (y ∷ ys) x a b = (a.0, allowed-more ys x a.1 b)

-- modules without another one
first-module : (x : List ℕ) (xs : List (List ℕ)) (test : Bool) → is_jobs x ≡ test → cond test (module_limit xs) (Some (kind.Module x)) ≡ None → (x ≡ jobs_module) × (module_limit xs ≡ None)
first-module x xs true t e = ((bytes_eq-Decides x jobs_module).0 t, e)
first-module x xs false t e = let no : ⊥ = cc in absurd no

modules-are : (xs : List (List ℕ)) → module_limit xs ≡ None → AreModules xs
modules-are [] e = tt
modules-are (x ∷ xs) e =
    let is : (x ≡ jobs_module) × (module_limit xs ≡ None) = first-module x xs (is_jobs x) refl e in
    (is.0, modules-are xs is.1)

option-test : (x : List ℕ) (test : Bool) → is_no_implicit x ≡ test → cond test None (Some (kind.Out x)) ≡ None → x ≡ no_implicit
option-test x true t e = (bytes_eq-Decides x no_implicit).0 t
option-test x false t e = let no : ⊥ = cc in absurd no

option-is : (x : List ℕ) → own_limit (form_kind.Options x) ≡ None → x ≡ no_implicit
option-is x e = option-test x (is_no_implicit x) refl e

-- a row of the block, or what parts it
pub sound-goes : (deep : ℕ) (frame : Frame) (k : Stack) (line : ℕ) (form : Form) (ps : List PieceForm) → Holds deep (frame ∷ k) ps → own_limit form ≡ None → goes_on frame form ≡ true → Holds deep (continued_by line form frame ∷ k) (ps ++ piece line form ∷ [])
sound-goes deep (frame_kind.Heads l name hs) k line (form_kind.Uses modules) ps held o q =
    record {
      alone = held.alone;
      allowed = allowed-more hs (head_kind.Uses line modules) held.allowed (modules-are modules o);
      exact = rw held.exact (ap (λ z. piece l (form_kind.Model name) ∷ z) (sym (map-append spell_head hs (head_kind.Uses line modules ∷ []))));
    }
sound-goes deep (frame_kind.Heads l name hs) k line (form_kind.Options x) ps held o q =
    record {
      alone = held.alone;
      allowed = allowed-more hs (head_kind.NoImplicit line) held.allowed tt;
      exact = rw (held.exact, option-is x o) (ap (λ z. piece l (form_kind.Model name) ∷ z) (sym (map-append spell_head hs (head_kind.NoImplicit line ∷ []))));
    }
sound-goes deep (frame_kind.Parameters l xs) k line (form_kind.Definition name value) ps held o q =
    let x : Parameter = record { line = line; name = name; default = value } in
    over-more deep (frame_kind.Parameters l xs) (frame_kind.Parameters l (xs ++ x ∷ [])) k ps (piece line (form_kind.Definition name value) ∷ []) held
    (record { there = held.4.there; fits = held.4.fits; exact = rw held.4.exact (ap (λ z. piece l (form_kind.Keyword keyword.Parameters) ∷ z) (sym (map-append spell_parameter xs (x ∷ [])))) })
sound-goes deep (frame_kind.Declarations l xs) k line (form_kind.Definition name value) ps held o q =
    let x : Item = item_kind.Constant line name value in
    over-more deep (frame_kind.Declarations l xs) (frame_kind.Declarations l (xs ++ x ∷ [])) k ps (piece line (form_kind.Definition name value) ∷ []) held
    (record { there = held.4.there; items = constant held.4.items line name value; are = ap (λ z. z ++ x ∷ []) held.4.are; fits = held.4.fits; exact = rw held.4.exact refl })
sound-goes deep (frame_kind.Declarations l xs) k line (form_kind.Typed names typ) ps held o q =
    let x : Item = item_kind.Variables line names typ in
    over-more deep (frame_kind.Declarations l xs) (frame_kind.Declarations l (xs ++ x ∷ [])) k ps (piece line (form_kind.Typed names typ) ∷ []) held
    (record { there = held.4.there; items = variables held.4.items line names typ; are = ap (λ z. z ++ x ∷ []) held.4.are; fits = held.4.fits; exact = rw held.4.exact refl })
sound-goes deep (frame_kind.Record l name xs) k line (form_kind.Typed names typ) ps held o q =
    let x : FieldGroup = record { line = line; names = names; typ = typ } in
    over-more deep (frame_kind.Record l name xs) (frame_kind.Record l name (xs ++ x ∷ [])) k ps (piece line (form_kind.Typed names typ) ∷ []) held
    (record { there = held.4.there; fits = held.4.fits; exact = rw held.4.exact (ap (λ z. piece l (form_kind.RecordOf name) ∷ z) (sym (map-append spell_field xs (x ∷ [])))) })
sound-goes deep (frame_kind.IfArm first arms l c body) k line (form_kind.Guarded conditional.Elif condition) ps held o q =
    over-more deep (frame_kind.IfArm first arms l c body) (frame_kind.IfArm first (arms ++ arm_of l c body ∷ []) line condition []) k ps (piece line (form_kind.Guarded conditional.Elif condition) ∷ []) held
    (record {
      there = held.4.there;
      before = arm held.4.before l c held.4.block;
      block = no_statement;
      line = held.4.line;
      are = rw (held.4.are, held.4.body_is) refl;
      body_is = refl;
      fits = omega (arith, held.4.fits, held.4.fits_body);
      fits_body = omega (arith, held.4.fits);
      exact = rw held.4.exact refl;
    })
sound-goes deep (frame_kind.IfArm first arms l c body) k line (form_kind.Keyword keyword.Else) ps held o q =
    over-more deep (frame_kind.IfArm first arms l c body) (frame_kind.IfElse first (arms ++ arm_of l c body ∷ []) []) k ps (piece line (form_kind.Keyword keyword.Else) ∷ []) held
    (record {
      there = held.4.there;
      before = held.4.before;
      last = l;
      condition = c;
      guarded = held.4.block;
      at = line;
      block = no_statement;
      line = held.4.line;
      are = rw (held.4.are, held.4.body_is) refl;
      body_is = refl;
      fits = held.4.fits;
      fits_guarded = held.4.fits_body;
      fits_body = omega (arith, held.4.fits);
      exact = rw held.4.exact refl;
    })
sound-goes deep (frame_kind.Case l v xs) k line (form_kind.Alternative names) ps held o q =
    over-more deep (frame_kind.Case l v xs) (frame_kind.CaseArm l v xs line names) k ps (piece line (form_kind.Alternative names) ∷ []) held
    (record { there = held.4.there; alternatives = held.4.alternatives; are = held.4.are; fits = held.4.fits; exact = rw held.4.exact refl })
sound-goes deep (frame_kind.Case l v xs) k line (form_kind.Keyword keyword.Else) ps held o q =
    over-more deep (frame_kind.Case l v xs) (frame_kind.CaseElse l v xs []) k ps (piece line (form_kind.Keyword keyword.Else) ∷ []) held
    (record { there = held.4.there; alternatives = held.4.alternatives; at = line; block = no_statement; are = held.4.are; body_is = refl; fits = held.4.fits; fits_body = omega (arith, held.4.fits); exact = rw held.4.exact refl })
sound-goes deep (frame_kind.Initializations l d n xs) k line (form_kind.Bare name) ps held o q =
    let x : LabelGroup = record { line = line; labels = record { name = name; shown = None } ∷ [] } in
    over-more deep (frame_kind.Initializations l d n xs) (frame_kind.Initializations l d n (xs ++ x ∷ [])) k ps (piece line (form_kind.Bare name) ∷ []) held
    (record { there = held.4.there; rows = named held.4.rows line name; are = ap (λ z. z ++ x ∷ []) held.4.are; fits = held.4.fits; exact = rw held.4.exact refl })
sound-goes deep (frame_kind.Initializations l d n xs) k line (form_kind.Labels shown) ps held o q =
    let x : LabelGroup = record { line = line; labels = shown } in
    over-more deep (frame_kind.Initializations l d n xs) (frame_kind.Initializations l d n (xs ++ x ∷ [])) k ps (piece line (form_kind.Labels shown) ∷ []) held
    (record { there = held.4.there; rows = labelled held.4.rows line shown; are = ap (λ z. z ++ x ∷ []) held.4.are; fits = held.4.fits; exact = rw held.4.exact refl })
sound-goes deep _ k line _ ps held o q = let no : ⊥ = cc in absurd no

-- ---- a piece that stands alone

-- no more blocks are open than may be
pub held-length : (deep : ℕ) (k : Stack) (ps : List PieceForm) → Holds deep k ps → length k ≤ deep + 1
held-length deep [] ps held = omega arith
held-length deep (frame_kind.Heads l name hs ∷ k) ps held = let none : length k ≡ 0 = ap length held.alone in omega (arith, none)
held-length deep (frame_kind.Tops l name hs xs ∷ k) ps held = let none : length k ≡ 0 = ap length held.alone in omega (arith, none)
held-length deep (frame_kind.End x ∷ k) ps held = let none : length k ≡ 0 = ap length held.alone in omega (arith, none)
held-length deep (frame_kind.Parameters l xs ∷ k) ps held = omega (arith, held.4.fits)
held-length deep (frame_kind.Declarations l xs ∷ k) ps held = omega (arith, held.4.fits)
held-length deep (frame_kind.Record l name xs ∷ k) ps held = omega (arith, held.4.fits)
held-length deep (frame_kind.Routine heading xs ∷ k) ps held = omega (arith, held.4.fits)
held-length deep (frame_kind.IfArm first arms l c body ∷ k) ps held = omega (arith, held.4.fits)
held-length deep (frame_kind.IfElse first arms body ∷ k) ps held = omega (arith, held.4.fits)
held-length deep (frame_kind.Case l v xs ∷ k) ps held = omega (arith, held.4.fits)
held-length deep (frame_kind.CaseArm l v xs at labels ∷ k) ps held = omega (arith, held.4.fits)
held-length deep (frame_kind.CaseElse l v xs body ∷ k) ps held = omega (arith, held.4.fits)
held-length deep (frame_kind.Forall l index ∷ k) ps held = omega (arith, held.4.fits)
held-length deep (frame_kind.While l c ∷ k) ps held = omega (arith, held.4.fits)
held-length deep (frame_kind.Repeat l body ∷ k) ps held = omega (arith, held.4.fits)
held-length deep (frame_kind.Do l body ∷ k) ps held = omega (arith, held.4.fits)
held-length deep (frame_kind.Initializations l d n xs ∷ k) ps held = omega (arith, held.4.fits)

is-forward : (deep : ℕ) (heading : Heading) → IsTop deep (λ xs. announces xs heading) (top.Forward heading) (piece heading.line (form_kind.Forward heading.name heading.formals heading.result) ∷ [])
is-forward deep heading = record { are = λ xs. refl; spelled = λ xs. refl; fits = λ xs d. d }

pub sound-stands : (deep : ℕ) (k : Stack) (line : ℕ) (form : Form) (ps : List PieceForm) → Holds deep k ps → stands_at (piece_kind_of form) (place_of k) ≡ true → own_limit form ≡ None → Holds deep (add (stands_alone line form) k) (ps ++ piece line form ∷ [])
sound-stands deep k line (form_kind.Simple x) ps held o l = added deep k ps (single line x) held (omega (arith, held-length deep k ps held)) o
sound-stands deep k line (form_kind.Bare name) ps held o l = added deep k ps (bare line name) held (omega (arith, held-length deep k ps held)) o
sound-stands deep k line (form_kind.Forward name formals result) ps held o l =
    let heading : Heading = record { line = line; name = name; formals = formals; result = result } in
    added-top deep k ps (λ xs. announces xs heading) (top.Forward heading) (piece line (form_kind.Forward name formals result) ∷ []) (is-forward deep heading) held o
sound-stands deep k line (form_kind.Routine name formals result) ps held o l = absurd (no-routine (place_of k) result o)
sound-stands deep k line (form_kind.Keyword keyword.EndIf) ps held o l = let no : ⊥ = cc in absurd no
sound-stands deep k line (form_kind.Guarded conditional.If x) ps held o l = let no : ⊥ = cc in absurd no
sound-stands deep k line _ ps held o l = let no : ⊥ = cc in absurd no

-- ---- a piece that closes

-- the pieces of a block that is closed, behind those before it
closing-is : (deep : ℕ) (next : Stack) (ps before own shown spelled : List PieceForm) (line : ℕ) (form end : Form) → form ≡ end → ps ≡ before ++ own → own ≡ shown → spelled ≡ shown ++ piece line end ∷ [] → Holds deep next (before ++ spelled) → Holds deep next (ps ++ piece line form ∷ [])
closing-is deep next ps before own shown spelled line form end f e o s held =
    respelled deep next (before ++ spelled) (ps ++ piece line form ∷ [])
    (ap (λ z. before ++ z) s ∙ sym (ap (λ z. z ++ piece line form ∷ []) (e ∙ ap (λ z. before ++ z) o) ∙ append_assoc before shown (piece line form ∷ []) ∙ ap (λ z. before ++ (shown ++ piece line z ∷ [])) f))
    held

-- a block that is closed as this statement
closes-statement : (deep : ℕ) (k : Stack) (ps before own shown : List PieceForm) (line : ℕ) (form end : Form) (x : Statement) (w : WrittenStatement) → form ≡ end → ps ≡ before ++ own → own ≡ shown → spell w ≡ shown ++ piece line end ∷ [] → x ≡ tree w → Holds deep k before → depth w + length k ≤ deep + 1 → takes_statements (place_of k) ≡ true → Holds deep (add_statement x k) (ps ++ piece line form ∷ [])
closes-statement deep k ps before own shown line form end x w f e o s is held d there =
    closing-is deep (add_statement x k) ps before own shown (spell w) line form end f e o s
    (subst (λ z. Holds deep (add_statement z k) (before ++ spell w)) (sym is) (added deep k before w held d there))

some-blocks : (k : Stack) → is_model (place_of k) ≡ true → 1 ≤ length k
some-blocks [] e = let no : ⊥ = cc in absurd no
some-blocks (x ∷ k) e = omega arith

is-sets : (deep l : ℕ) (xs : List Parameter) (line : ℕ) → 1 ≤ deep → IsTop deep (λ zs. sets zs l xs line) (top.Parameters l xs) (piece l (form_kind.Keyword keyword.Parameters) ∷ (map spell_parameter xs ++ piece line (form_kind.Keyword keyword.EndParameters) ∷ []))
is-sets deep l xs line d = record { are = λ zs. refl; spelled = λ zs. refl; fits = λ zs h. omega (arith, h, d) }

is-defined : (deep : ℕ) (heading : Heading) (all : List RoutinePart) (parts : Parts) (line : ℕ) → all ≡ parts_of parts → 1 + depth_parts parts ≤ deep → IsTop deep (λ zs. defines zs heading parts line) (top.Routine (record { heading = heading; parts = all })) (piece heading.line (heading_form heading) ∷ (spell_parts parts ++ piece line (end_form heading.result) ∷ []))
is-defined deep heading all parts line are d = record { are = λ zs. rw are refl; spelled = λ zs. refl; fits = λ zs h. omega (arith, h, d) }

closes-source : (deep l : ℕ) (name : ModelName) (hs : List Head) (xs : List Top) (tops : Tops) (k : Stack) (line : ℕ) (form : Form) (ps : List PieceForm) → form ≡ form_kind.Keyword keyword.EndModel → k ≡ [] → AreAllowed hs → xs ≡ tops_of tops → depth_tops tops ≤ deep → ps ≡ piece l (form_kind.Model name) ∷ (map spell_head hs ++ spell_tops tops) → Holds deep (frame_kind.End (record { line = l; name = name; heads = hs; tops = xs }) ∷ k) (ps ++ piece line form ∷ [])
closes-source deep l name hs xs tops k line form ps closes none allowed are fits exact = record {
  alone = none;
  source = record { line = l; name = name; heads = hs; tops = tops; end = line };
  within = record { allowed = allowed; fits = fits };
  exact = rw (exact, closes) (ap (λ z. piece l (form_kind.Model name) ∷ z) (append_assoc (map spell_head hs) (spell_tops tops) (piece line (form_kind.Keyword keyword.EndModel) ∷ [])));
  is = rw are refl;
}

pub sound-closes : (deep : ℕ) (frame : Frame) (k : Stack) (line : ℕ) (form : Form) (ps : List PieceForm) → Holds deep (frame ∷ k) ps → own_limit form ≡ None → role_at (frame_place frame) (piece_kind_of form) ≡ Some Closes → Holds deep (close line form (frame ∷ k)) (ps ++ piece line form ∷ [])
sound-closes deep (frame_kind.Heads l name hs) k line form ps held o r =
    closes-source deep l name hs [] no_top k line form ps (closes-word place_kind.Heads form refl o r) held.alone held.allowed refl (omega arith) (held.exact ∙ ap (λ z. piece l (form_kind.Model name) ∷ z) (sym (append-nil (map spell_head hs))))
sound-closes deep (frame_kind.Tops l name hs xs) k line form ps held o r =
    closes-source deep l name hs xs held.tops k line form ps (closes-word place_kind.Tops form refl o r) held.alone held.allowed held.are held.fits held.exact
sound-closes deep (frame_kind.Parameters l xs) k line form ps held o r =
    closing-is deep (add_other (part.Top (top.Parameters l xs)) k) ps held.0 held.1 _ (piece l (form_kind.Keyword keyword.Parameters) ∷ (map spell_parameter xs ++ piece line (form_kind.Keyword keyword.EndParameters) ∷ [])) line form _ (closes-word place_kind.Parameters form refl o r) held.3 held.4.exact refl
    (added-top deep k held.0 (λ zs. sets zs l xs line) (top.Parameters l xs) (piece l (form_kind.Keyword keyword.Parameters) ∷ (map spell_parameter xs ++ piece line (form_kind.Keyword keyword.EndParameters) ∷ [])) (is-sets deep l xs line (omega (arith, held.4.fits, some-blocks k held.4.there))) held.2 held.4.there)
sound-closes deep (frame_kind.Declarations l xs) k line form ps held o r =
    closing-is deep (add_other (part.Declared (record { line = l; items = xs })) k) ps held.0 held.1 _ (spell_declarations l held.4.items line) line form _ (closes-word place_kind.Declarations form refl o r) held.3 held.4.exact refl
    (added-declared deep k held.0 l xs held.4.items line held.4.are held.2 held.4.fits held.4.there)
sound-closes deep (frame_kind.Record l name xs) k line form ps held o r =
    closing-is deep (add_other (part.Record (item_kind.Record l name xs)) k) ps held.0 held.1 _ (piece l (form_kind.RecordOf name) ∷ (map spell_field xs ++ piece line (form_kind.Keyword keyword.EndRecord) ∷ [])) line form _ (closes-word place_kind.Record form refl o r) held.3 held.4.exact refl
    (added-record deep k held.0 l name xs line held.2 held.4.fits held.4.there)
sound-closes deep (frame_kind.Routine heading xs) k line form ps held o r =
    closing-is deep (add_other (part.Top (top.Routine (record { heading = heading; parts = xs }))) k) ps held.0 held.1 _ (piece heading.line (heading_form heading) ∷ (spell_parts held.4.parts ++ piece line (end_form heading.result) ∷ [])) line form _ (closes-routine heading.result form o r) held.3 held.4.exact refl
    (added-top deep k held.0 (λ zs. defines zs heading held.4.parts line) (top.Routine (record { heading = heading; parts = xs })) (piece heading.line (heading_form heading) ∷ (spell_parts held.4.parts ++ piece line (end_form heading.result) ∷ [])) (is-defined deep heading xs held.4.parts line held.4.are (omega (arith, held.4.fits, some-blocks k held.4.there))) held.2 held.4.there)
sound-closes deep (frame_kind.IfArm first arms l c body) k line form ps held o r =
    closes-statement deep k ps held.0 held.1 _ line form _ (statement_kind.If first (arms ++ arm_of l c body ∷ []) []) (if_ held.4.before l c held.4.block without line) (closes-word place_kind.IfArm form refl o r) held.3 held.4.exact
    (sym (append_assoc (spell_arms held.4.before) (piece l (arm_form held.4.before c) ∷ spell_block held.4.block) (piece line (form_kind.Keyword keyword.EndIf) ∷ [])))
    (rw (held.4.line, held.4.are, held.4.body_is) refl) held.2 (omega (arith, held.4.fits, held.4.fits_body)) held.4.there
sound-closes deep (frame_kind.IfElse first arms body) k line form ps held o r =
    let guarded : List PieceForm = piece held.4.last (arm_form held.4.before held.4.condition) ∷ spell_block held.4.guarded in
    closes-statement deep k ps held.0 held.1 _ line form _ (statement_kind.If first arms body) (if_ held.4.before held.4.last held.4.condition held.4.guarded (otherwise held.4.at held.4.block) line) (closes-word place_kind.IfElse form refl o r) held.3 held.4.exact
    (sym (append_assoc (spell_arms held.4.before ++ guarded) (piece held.4.at (form_kind.Keyword keyword.Else) ∷ spell_block held.4.block) (piece line (form_kind.Keyword keyword.EndIf) ∷ [])
    ∙ append_assoc (spell_arms held.4.before) guarded (piece held.4.at (form_kind.Keyword keyword.Else) ∷ (spell_block held.4.block ++ piece line (form_kind.Keyword keyword.EndIf) ∷ []))))
    (rw (held.4.line, held.4.are, held.4.body_is) refl) held.2 (omega (arith, held.4.fits, held.4.fits_guarded, held.4.fits_body)) held.4.there
sound-closes deep (frame_kind.Case l v xs) k line form ps held o r =
    closes-statement deep k ps held.0 held.1 _ line form _ (statement_kind.Case l v xs []) (case_ l v held.4.alternatives without line) (closes-word place_kind.Case form refl o r) held.3 held.4.exact refl
    (rw held.4.are refl) held.2 (omega (arith, held.4.fits)) held.4.there
sound-closes deep (frame_kind.CaseElse l v xs body) k line form ps held o r =
    closes-statement deep k ps held.0 held.1 _ line form _ (statement_kind.Case l v xs body) (case_ l v held.4.alternatives (otherwise held.4.at held.4.block) line) (closes-word place_kind.CaseElse form refl o r) held.3 held.4.exact
    (ap (λ z. piece l (form_kind.Guarded conditional.Case v) ∷ z) (sym (append_assoc (spell_alternatives held.4.alternatives) (piece held.4.at (form_kind.Keyword keyword.Else) ∷ spell_block held.4.block) (piece line (form_kind.Keyword keyword.EndCase) ∷ []))))
    (rw (held.4.are, held.4.body_is) refl) held.2 (omega (arith, held.4.fits, held.4.fits_body)) held.4.there
sound-closes deep (frame_kind.Repeat l body) k line form ps held o r =
    let until-is : (c : Expr) × (form ≡ form_kind.Guarded conditional.Until c) = closes-repeat form o r in
    let w : WrittenStatement = repeat_ l held.4.block line until-is.0 in
    subst (λ z. Holds deep (add (until line z l body) k) (ps ++ piece line form ∷ [])) (sym until-is.1)
    (closes-statement deep k ps held.0 held.1 _ line form _ (statement_kind.Repeat l body line until-is.0) w until-is.1 held.3 held.4.exact refl (rw held.4.body_is refl) held.2 (omega (arith, held.4.fits)) held.4.there)
sound-closes deep (frame_kind.Do l body) k line form ps held o r =
    closes-statement deep k ps held.0 held.1 _ line form _ (statement_kind.Do l body) (do_ l held.4.block line) (closes-word place_kind.Do form refl o r) held.3 held.4.exact refl
    (rw held.4.body_is refl) held.2 (omega (arith, held.4.fits)) held.4.there
sound-closes deep (frame_kind.Initializations l d n xs) k line form ps held o r =
    closes-statement deep k ps held.0 held.1 _ line form _ (statement_kind.Initializations l d n xs) (initializations l d n held.4.rows line) (closes-word place_kind.Initializations form refl o r) held.3 held.4.exact refl
    (rw held.4.are refl) held.2 (omega (arith, held.4.fits)) held.4.there
sound-closes deep (frame_kind.CaseArm l v xs at labels) k line form ps held o r = absurd (none-closes place_kind.CaseArm (piece_kind_of form) refl r)
sound-closes deep (frame_kind.Forall l index) k line form ps held o r = absurd (none-closes place_kind.LoopBody (piece_kind_of form) refl r)
sound-closes deep (frame_kind.While l c) k line form ps held o r = absurd (none-closes place_kind.LoopBody (piece_kind_of form) refl r)
sound-closes deep (frame_kind.End x) k line form ps held o r = absurd (none-closes place_kind.End (piece_kind_of form) refl r)

-- ---- any piece

abbrev pub some_kind : Kind → Option Kind
some_kind x = Some x

pub goes-is : (kind : Option Kind) (next k : Stack) → outcome kind next ≡ Ok k → (kind ≡ None) × (next ≡ k)
goes-is None next k e = (refl, cc)
goes-is (Some x) next k e = let no : ⊥ = cc in absurd no

pub no-limit : (a b : Option Kind) → or_block a b ≡ None → (a ≡ None) × (b ≡ None)
no-limit None b e = (refl, e)
no-limit (Some x) b e = let no : ⊥ = cc in absurd no

fits-test : (deep n : ℕ) (test : Bool) → nat_lt deep n ≡ test → cond test (some_kind kind.Deep) None ≡ None → n ≤ deep
fits-test deep n true t e = let no : ⊥ = cc in absurd no
fits-test deep n false t e = ltb-false deep n t

pub fits-is : (deep n : ℕ) → block_limit deep Opens n ≡ None → n ≤ deep
fits-is deep n e = fits-test deep n (nat_lt deep n) refl e

pub sound-enter : (deep : ℕ) (role : Role) (k : Stack) (line : ℕ) (form : Form) (ps : List PieceForm) → Holds deep k ps → role_at (place_of k) (piece_kind_of form) ≡ Some role → own_limit form ≡ None → block_limit deep role (length k) ≡ None → Holds deep (enter role line form k) (ps ++ piece line form ∷ [])
sound-enter deep Opens k line form ps held r o b = sound-opens deep k line form ps held (opens-there (place_of k) (piece_kind_of form) r) o (fits-is deep (length k) b)
sound-enter deep Continues [] line form ps held r o b = absurd (none-goes place_kind.Start (piece_kind_of form) refl r)
sound-enter deep Continues (frame ∷ k) line form ps held r o b = sound-goes deep frame k line form ps held o (goes-there frame form o r)
sound-enter deep StandsAlone k line form ps held r o b = sound-stands deep k line form ps held (stands-there (place_of k) (piece_kind_of form) r) o
sound-enter deep Closes [] line form ps held r o b = absurd (none-closes place_kind.Start (piece_kind_of form) refl r)
sound-enter deep Closes (frame ∷ k) line form ps held r o b = sound-closes deep frame k line form ps held o r

sound-role : (deep : ℕ) (role : Option Role) (k next : Stack) (line : ℕ) (form : Form) (ps : List PieceForm) → Holds deep k ps → role_at (place_of k) (piece_kind_of form) ≡ role → step_in deep role line form k ≡ Ok next → Holds deep next (ps ++ piece line form ∷ [])
unfolding step_as
sound-role deep None k next line form ps held r e = let no : ⊥ = cc in absurd no
sound-role deep (Some role) k next line form ps held r e =
    let is : (broken_limit deep role (length k) form ≡ None) × (enter role line form k ≡ next) = goes-is (broken_limit deep role (length k) form) (enter role line form k) next e in
    let limits : (own_limit form ≡ None) × (block_limit deep role (length k) ≡ None) = no-limit (own_limit form) (block_limit deep role (length k)) is.0 in
    subst (λ z. Holds deep z (ps ++ piece line form ∷ [])) is.1 (sound-enter deep role k line form ps held r limits.0 limits.1)

-- what is held behind a piece that is taken
pub sound : (deep : ℕ) (k next : Stack) (x : PieceForm) (ps : List PieceForm) → Holds deep k ps → step deep k x ≡ Ok next → Holds deep next (ps ++ x ∷ [])
unfolding step
sound deep k next x ps held e = sound-role deep (role_at (place_of k) (piece_kind_of x.form)) k next x.line x.form ps held refl e

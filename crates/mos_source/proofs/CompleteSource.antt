-- Each source as it is written is read.

use Rattle.std.proofs.Common.{◌≡◌, ℕ, ◌+◌, ◌≤◌, true, List, [], ◌∷◌, ◌++◌, length, Option, Some, None, Ok, refl, sym, ◌∙◌, ap, arith, map}
use Rattle.std.proofs.lemmas.List.{append_assoc, append-nil}
use Rattle.std.proofs.lemmas.Slice.Eq.{bytes_eq-Decides}
use Rattle.mos_tree.specs.declared.source.Declared.{Declared}
use Rattle.mos_tree.specs.declared.declaration.Parameter.{Parameter}
use Rattle.mos_tree.specs.declared.declaration.FieldGroup.{FieldGroup}
use Rattle.mos_tree.specs.declared.declaration.Heading.{Heading}
use Rattle.mos_tree.specs.declared.declaration.BaseType.{BaseType}
use Rattle.mos_tree.specs.declared.source.ModelName.{ModelName}
use Rattle.mos_tree.specs.declared.source.Head.{Head}
use Rattle.mos_tree.specs.declared.source.Head.TheVariants as head_kind
use Rattle.mos_tree.specs.declared.source.Routine.{Routine}
use Rattle.mos_tree.specs.declared.source.Top.{Top}
use Rattle.mos_tree.specs.declared.source.Top.TheVariants as top
use Rattle.mos_tree.specs.declared.statement.Statement.{Statement}
use Rattle.mos_tree.specs.declared.form.Form.TheVariants as form_kind
use Rattle.mos_tree.specs.declared.form.Keyword.TheVariants as keyword
use Rattle.mos_tree.specs.declared.form.PieceKind.{PieceKind}
use Rattle.mos_tree.specs.declared.form.PieceKind.TheVariants as piece_kind
use Rattle.mos_tree.specs.declared.form.PieceForm.{PieceForm}
use Rattle.mos_source.specs.declared.frame.Frame.{Frame}
use Rattle.mos_source.specs.declared.frame.Frame.TheVariants as frame_kind
use Rattle.mos_source.specs.declared.frame.Part.TheVariants as part
use Rattle.mos_source.specs.declared.place.Place.TheVariants as place_kind
use Rattle.mos_source.specs.declared.place.Role.{Role}
use Rattle.mos_source.specs.declared.place.Role.TheVariants.{Opens, Continues, StandsAlone, Closes}
use Rattle.mos_tree.specs.Forms.{piece, routine_kind}
use Rattle.mos_source.specs.Limits.{module_limit, is_jobs}
use Rattle.mos_source.specs.Places.{takes_statements, role_at}
use Rattle.mos_source.specs.Statements.{spell, tree}
use Rattle.mos_source.specs.Sources.{Items, no_item, constant, variables, record_type, Parts, no_part, declares, states, Tops, no_top, sets, declares_top, defines, announces, states_top, Source, spell_parameter, spell_field, spell_items, spell_declarations, spell_parts, heading_form, end_form, spell_tops, no_implicit, jobs_module, spell_head, spell_source, depth_items, depth_parts, depth_tops, AreModules, IsAllowed, AreAllowed, items_of, declaration_block, parts_of, tops_of, tree_of}
use Rattle.mos_source.specs.Machine.{Stack, frame_place, routine_place, place_of, add_statement, add_other, step, step_as, run, done}
use Rattle.mos_source.proofs.Roles.{ends, ends-routine, end-limit}
use Rattle.mos_source.proofs.Steps.{step-role, run-step, run-role, run-open, one-end}
use Rattle.mos_source.proofs.Complete.{reads}

-- ---- rows of one piece each

fields-read : (deep : ℕ) (k : Stack) (l : ℕ) (name : List ℕ) (before : List FieldGroup) (xs : List FieldGroup) (rest : List PieceForm) → run deep (frame_kind.Record l name before ∷ k) (map spell_field xs ++ rest) ≡ run deep (frame_kind.Record l name (before ++ xs) ∷ k) rest
unfolding step step_as role_at
fields-read deep k l name before [] rest = ap (λ ys. run deep (frame_kind.Record l name ys ∷ k) rest) (sym (append-nil before))
fields-read deep k l name before (x ∷ xs) rest =
    fields-read deep k l name (before ++ x ∷ []) xs rest
    ∙ ap (λ ys. run deep (frame_kind.Record l name ys ∷ k) rest) (append_assoc before (x ∷ []) xs)

parameters-read : (deep : ℕ) (k : Stack) (l : ℕ) (before : List Parameter) (xs : List Parameter) (rest : List PieceForm) → run deep (frame_kind.Parameters l before ∷ k) (map spell_parameter xs ++ rest) ≡ run deep (frame_kind.Parameters l (before ++ xs) ∷ k) rest
unfolding step step_as role_at
parameters-read deep k l before [] rest = ap (λ ys. run deep (frame_kind.Parameters l ys ∷ k) rest) (sym (append-nil before))
parameters-read deep k l before (x ∷ xs) rest =
    parameters-read deep k l (before ++ x ∷ []) xs rest
    ∙ ap (λ ys. run deep (frame_kind.Parameters l ys ∷ k) rest) (append_assoc before (x ∷ []) xs)

-- ---- heads

pub modules-allowed : (xs : List (List ℕ)) → AreModules xs → module_limit xs ≡ None
modules-allowed [] a = refl
modules-allowed (x ∷ xs) a =
    let same : is_jobs x ≡ true = (bytes_eq-Decides x jobs_module).1 a.0 in
    rw same (modules-allowed xs a.1)

head-step : (deep : ℕ) (k : Stack) (l : ℕ) (name : ModelName) (before : List Head) (x : Head) → IsAllowed x → step deep (frame_kind.Heads l name before ∷ k) (spell_head x) ≡ Ok (frame_kind.Heads l name (before ++ x ∷ []) ∷ k)
unfolding role_at
head-step deep k l name before (head_kind.Uses line modules) a = step-role deep (frame_kind.Heads l name before ∷ k) (piece line (form_kind.Uses modules)) Continues refl (modules-allowed modules a) refl
head-step deep k l name before (head_kind.NoImplicit line) a = step-role deep (frame_kind.Heads l name before ∷ k) (piece line (form_kind.Options no_implicit)) Continues refl refl refl

heads-read : (deep : ℕ) (k : Stack) (l : ℕ) (name : ModelName) (before : List Head) (xs : List Head) (rest : List PieceForm) → AreAllowed xs → run deep (frame_kind.Heads l name before ∷ k) (map spell_head xs ++ rest) ≡ run deep (frame_kind.Heads l name (before ++ xs) ∷ k) rest
heads-read deep k l name before [] rest a = ap (λ ys. run deep (frame_kind.Heads l name ys ∷ k) rest) (sym (append-nil before))
heads-read deep k l name before (x ∷ xs) rest a =
    run-step deep (frame_kind.Heads l name before ∷ k) (frame_kind.Heads l name (before ++ x ∷ []) ∷ k) (spell_head x) (map spell_head xs ++ rest) (head-step deep k l name before x a.0)
    ∙ heads-read deep k l name (before ++ x ∷ []) xs rest a.1
    ∙ ap (λ ys. run deep (frame_kind.Heads l name ys ∷ k) rest) (append_assoc before (x ∷ []) xs)

-- ---- declarations

items-read : (deep : ℕ) (xs : Items) (k : Stack) (l : ℕ) (rest : List PieceForm) → depth_items xs + length k ≤ deep → run deep (frame_kind.Declarations l [] ∷ k) (spell_items xs ++ rest) ≡ run deep (frame_kind.Declarations l (items_of xs) ∷ k) rest
unfolding step step_as role_at
items-read deep no_item k l rest h = refl
items-read deep (constant xs line name value) k l rest h =
    ap (run deep (frame_kind.Declarations l [] ∷ k)) (one-end (spell_items xs) (piece line (form_kind.Definition name value)) rest)
    ∙ items-read deep xs k l (piece line (form_kind.Definition name value) ∷ rest) h
items-read deep (variables xs line names typ) k l rest h =
    ap (run deep (frame_kind.Declarations l [] ∷ k)) (one-end (spell_items xs) (piece line (form_kind.Typed names typ)) rest)
    ∙ items-read deep xs k l (piece line (form_kind.Typed names typ) ∷ rest) h
items-read deep (record_type xs line name fields end) k l rest h =
    ap (run deep (frame_kind.Declarations l [] ∷ k)) (append_assoc (spell_items xs) (piece line (form_kind.RecordOf name) ∷ (map spell_field fields ++ piece end (form_kind.Keyword keyword.EndRecord) ∷ [])) rest ∙ ap (λ zs. spell_items xs ++ piece line (form_kind.RecordOf name) ∷ zs) (one-end (map spell_field fields) (piece end (form_kind.Keyword keyword.EndRecord)) rest))
    ∙ items-read deep xs k l (piece line (form_kind.RecordOf name) ∷ (map spell_field fields ++ piece end (form_kind.Keyword keyword.EndRecord) ∷ rest)) (omega (arith, h))
    ∙ run-open deep (frame_kind.Declarations l (items_of xs) ∷ k) line (form_kind.RecordOf name) (frame_kind.Record line name []) (map spell_field fields ++ piece end (form_kind.Keyword keyword.EndRecord) ∷ rest) refl refl refl (omega (arith, h))
    ∙ fields-read deep (frame_kind.Declarations l (items_of xs) ∷ k) line name [] fields (piece end (form_kind.Keyword keyword.EndRecord) ∷ rest)

-- a block of `declarations`, where one may stand
declarations-read : (deep : ℕ) (line : ℕ) (xs : Items) (end : ℕ) (k : Stack) (rest : List PieceForm) → role_at (place_of k) piece_kind.Declarations ≡ Some Opens → 1 + depth_items xs + length k ≤ deep + 1 → run deep k (spell_declarations line xs end ++ rest) ≡ run deep (add_other (part.Declared (declaration_block line xs)) k) rest
declarations-read deep line xs end k rest role h =
    run-open deep k line (form_kind.Keyword keyword.Declarations) (frame_kind.Declarations line []) ((spell_items xs ++ piece end (form_kind.Keyword keyword.EndDeclarations) ∷ []) ++ rest) role refl refl (omega (arith, h))
    ∙ ap (run deep (frame_kind.Declarations line [] ∷ k)) (one-end (spell_items xs) (piece end (form_kind.Keyword keyword.EndDeclarations)) rest)
    ∙ items-read deep xs k line (piece end (form_kind.Keyword keyword.EndDeclarations) ∷ rest) (omega (arith, h))
    ∙ run-role deep (frame_kind.Declarations line (items_of xs) ∷ k) (piece end (form_kind.Keyword keyword.EndDeclarations)) Closes rest (ends place_kind.Declarations refl) refl refl

-- ---- routines

routine-takes : (typ : Option BaseType) → takes_statements (routine_place typ) ≡ true
routine-takes None = refl
routine-takes (Some t) = refl

routine-declares : (typ : Option BaseType) → role_at (routine_place typ) piece_kind.Declarations ≡ Some Opens
unfolding role_at
routine-declares None = refl
routine-declares (Some t) = refl

parts-read : (deep : ℕ) (xs : Parts) (k : Stack) (heading : Heading) (rest : List PieceForm) → depth_parts xs + length k ≤ deep → run deep (frame_kind.Routine heading [] ∷ k) (spell_parts xs ++ rest) ≡ run deep (frame_kind.Routine heading (parts_of xs) ∷ k) rest
parts-read deep no_part k heading rest h = refl
parts-read deep (declares xs line items end) k heading rest h =
    ap (run deep (frame_kind.Routine heading [] ∷ k)) (append_assoc (spell_parts xs) (spell_declarations line items end) rest)
    ∙ parts-read deep xs k heading (spell_declarations line items end ++ rest) (omega (arith, h))
    ∙ declarations-read deep line items end (frame_kind.Routine heading (parts_of xs) ∷ k) rest (routine-declares heading.result) (omega (arith, h))
parts-read deep (states xs w) k heading rest h =
    ap (run deep (frame_kind.Routine heading [] ∷ k)) (append_assoc (spell_parts xs) (spell w) rest)
    ∙ parts-read deep xs k heading (spell w ++ rest) (omega (arith, h))
    ∙ reads deep w (frame_kind.Routine heading (parts_of xs) ∷ k) rest (routine-takes heading.result) (omega (arith, h))

-- ---- what stands in a model

-- the model that is open, with this behind its heads
abbrev pub model : ℕ → ModelName → List Head → List Top → Frame
model l name heads [] = frame_kind.Heads l name heads
model l name heads (x ∷ xs) = frame_kind.Tops l name heads (x ∷ xs)

pub model-takes : (l : ℕ) (name : ModelName) (heads : List Head) (xs : List Top) → takes_statements (frame_place (model l name heads xs)) ≡ true
model-takes l name heads [] = refl
model-takes l name heads (x ∷ xs) = refl

pub model-states : (l : ℕ) (name : ModelName) (heads : List Head) (xs : List Top) (x : Statement) (k : Stack) → add_statement x (model l name heads xs ∷ k) ≡ model l name heads (xs ++ top.Statement x ∷ []) ∷ k
model-states l name heads [] x k = refl
model-states l name heads (y ∷ ys) x k = refl

pub model-declares : (l : ℕ) (name : ModelName) (heads : List Head) (xs : List Top) (x : Declared) (k : Stack) → add_other (part.Declared x) (model l name heads xs ∷ k) ≡ model l name heads (xs ++ top.Declarations x ∷ []) ∷ k
model-declares l name heads [] x k = refl
model-declares l name heads (y ∷ ys) x k = refl

pub model-others : (l : ℕ) (name : ModelName) (heads : List Head) (xs : List Top) (x : Top) (k : Stack) → add_other (part.Top x) (model l name heads xs ∷ k) ≡ model l name heads (xs ++ x ∷ []) ∷ k
model-others l name heads [] x k = refl
model-others l name heads (y ∷ ys) x k = refl

model-role : (l : ℕ) (name : ModelName) (heads : List Head) (xs : List Top) (x : PieceKind) (role : Role) → role_at place_kind.Heads x ≡ Some role → role_at place_kind.Tops x ≡ Some role → role_at (frame_place (model l name heads xs)) x ≡ Some role
model-role l name heads [] x role a b = a
model-role l name heads (y ∷ ys) x role a b = b

model-routine : (l : ℕ) (name : ModelName) (heads : List Head) (xs : List Top) (typ : Option BaseType) → role_at (frame_place (model l name heads xs)) (routine_kind typ) ≡ Some Opens
unfolding role_at
model-routine l name heads xs None = model-role l name heads xs piece_kind.Procedure Opens refl refl
model-routine l name heads xs (Some typ) = model-role l name heads xs piece_kind.Function Opens refl refl

tops-read : (deep : ℕ) (xs : Tops) (l : ℕ) (name : ModelName) (heads : List Head) (rest : List PieceForm) → depth_tops xs ≤ deep → run deep (frame_kind.Heads l name heads ∷ []) (spell_tops xs ++ rest) ≡ run deep (model l name heads (tops_of xs) ∷ []) rest
unfolding role_at
tops-read deep no_top l name heads rest h = refl
tops-read deep (sets xs line ps end) l name heads rest h =
    let k : Stack = model l name heads (tops_of xs) ∷ [] in
    ap (run deep (frame_kind.Heads l name heads ∷ [])) (append_assoc (spell_tops xs) (piece line (form_kind.Keyword keyword.Parameters) ∷ (map spell_parameter ps ++ piece end (form_kind.Keyword keyword.EndParameters) ∷ [])) rest ∙ ap (λ zs. spell_tops xs ++ piece line (form_kind.Keyword keyword.Parameters) ∷ zs) (one-end (map spell_parameter ps) (piece end (form_kind.Keyword keyword.EndParameters)) rest))
    ∙ tops-read deep xs l name heads (piece line (form_kind.Keyword keyword.Parameters) ∷ (map spell_parameter ps ++ piece end (form_kind.Keyword keyword.EndParameters) ∷ rest)) (omega (arith, h))
    ∙ run-open deep k line (form_kind.Keyword keyword.Parameters) (frame_kind.Parameters line []) (map spell_parameter ps ++ piece end (form_kind.Keyword keyword.EndParameters) ∷ rest) (model-role l name heads (tops_of xs) piece_kind.Parameters Opens refl refl) refl refl (omega (arith, h))
    ∙ parameters-read deep k line [] ps (piece end (form_kind.Keyword keyword.EndParameters) ∷ rest)
    ∙ run-role deep (frame_kind.Parameters line ps ∷ k) (piece end (form_kind.Keyword keyword.EndParameters)) Closes rest (ends place_kind.Parameters refl) refl refl
    ∙ ap (λ z. run deep z rest) (model-others l name heads (tops_of xs) (top.Parameters line ps) [])
tops-read deep (declares_top xs line items end) l name heads rest h =
    ap (run deep (frame_kind.Heads l name heads ∷ [])) (append_assoc (spell_tops xs) (spell_declarations line items end) rest)
    ∙ tops-read deep xs l name heads (spell_declarations line items end ++ rest) (omega (arith, h))
    ∙ declarations-read deep line items end (model l name heads (tops_of xs) ∷ []) rest (model-role l name heads (tops_of xs) piece_kind.Declarations Opens refl refl) (omega (arith, h))
    ∙ ap (λ z. run deep z rest) (model-declares l name heads (tops_of xs) (declaration_block line items) [])
tops-read deep (defines xs heading parts end) l name heads rest h =
    let k : Stack = model l name heads (tops_of xs) ∷ [] in
    let routine : Routine = record { heading = heading; parts = parts_of parts } in
    ap (run deep (frame_kind.Heads l name heads ∷ [])) (append_assoc (spell_tops xs) (piece heading.line (heading_form heading) ∷ (spell_parts parts ++ piece end (end_form heading.result) ∷ [])) rest ∙ ap (λ zs. spell_tops xs ++ piece heading.line (heading_form heading) ∷ zs) (one-end (spell_parts parts) (piece end (end_form heading.result)) rest))
    ∙ tops-read deep xs l name heads (piece heading.line (heading_form heading) ∷ (spell_parts parts ++ piece end (end_form heading.result) ∷ rest)) (omega (arith, h))
    ∙ run-open deep k heading.line (heading_form heading) (frame_kind.Routine heading []) (spell_parts parts ++ piece end (end_form heading.result) ∷ rest) (model-routine l name heads (tops_of xs) heading.result) refl refl (omega (arith, h))
    ∙ parts-read deep parts k heading (piece end (end_form heading.result) ∷ rest) (omega (arith, h))
    ∙ run-role deep (frame_kind.Routine heading (parts_of parts) ∷ k) (piece end (end_form heading.result)) Closes rest (ends-routine heading.result) (end-limit heading.result) refl
    ∙ ap (λ z. run deep z rest) (model-others l name heads (tops_of xs) (top.Routine routine) [])
tops-read deep (announces xs heading) l name heads rest h =
    let x : PieceForm = piece heading.line (form_kind.Forward heading.name heading.formals heading.result) in
    ap (run deep (frame_kind.Heads l name heads ∷ [])) (one-end (spell_tops xs) x rest)
    ∙ tops-read deep xs l name heads (x ∷ rest) h
    ∙ run-role deep (model l name heads (tops_of xs) ∷ []) x StandsAlone rest (model-role l name heads (tops_of xs) piece_kind.Forward StandsAlone refl refl) refl refl
    ∙ ap (λ z. run deep z rest) (model-others l name heads (tops_of xs) (top.Forward heading) [])
tops-read deep (states_top xs w) l name heads rest h =
    ap (run deep (frame_kind.Heads l name heads ∷ [])) (append_assoc (spell_tops xs) (spell w) rest)
    ∙ tops-read deep xs l name heads (spell w ++ rest) (omega (arith, h))
    ∙ reads deep w (model l name heads (tops_of xs) ∷ []) rest (model-takes l name heads (tops_of xs)) (omega (arith, h))
    ∙ ap (λ z. run deep z rest) (model-states l name heads (tops_of xs) (tree w) [])

-- ---- the whole source

end-read : (deep : ℕ) (l : ℕ) (name : ModelName) (heads : List Head) (xs : List Top) (end : ℕ) → run deep (model l name heads xs ∷ []) (piece end (form_kind.Keyword keyword.EndModel) ∷ []) ≡ done (record { line = l; name = name; heads = heads; tops = xs })
unfolding step step_as role_at
end-read deep l name heads [] end = refl
end-read deep l name heads (x ∷ xs) end = refl

-- the pieces of a source within the limits give its tree
pub source-read : (deep : ℕ) (x : Source) → AreAllowed x.heads → depth_tops x.tops ≤ deep → run deep [] (spell_source x) ≡ done (tree_of x)
unfolding role_at
source-read deep x a h =
    run-open deep [] x.line (form_kind.Model x.name) (frame_kind.Heads x.line x.name []) (map spell_head x.heads ++ (spell_tops x.tops ++ piece x.end (form_kind.Keyword keyword.EndModel) ∷ [])) refl refl refl (omega arith)
    ∙ heads-read deep [] x.line x.name [] x.heads (spell_tops x.tops ++ piece x.end (form_kind.Keyword keyword.EndModel) ∷ []) a
    ∙ tops-read deep x.tops x.line x.name x.heads (piece x.end (form_kind.Keyword keyword.EndModel) ∷ []) h
    ∙ end-read deep x.line x.name x.heads (tops_of x.tops) x.end

-- The productions name the faulty piece.

use Rattle.std.proofs.Common.{◌≡◌, ◌≢◌, Bool, true, false, inl, inr, List, [], ◌∷◌, ◌++◌, length, Option, Some, None, refl, sym, ◌∙◌, ap, subst, arith}
use Rattle.std.proofs.lemmas.List.{append_cancel_left, append_cancel_right}
use Rattle.mos_text.specs.declared.kind.Kind.{Kind}
use Rattle.mos_text.specs.declared.kind.Kind.TheVariants as kind
use Rattle.mos_tree.specs.declared.source.Tree.{Tree}
use Rattle.mos_tree.specs.declared.form.PieceKind.{PieceKind}
use Rattle.mos_tree.specs.declared.form.PieceKind.TheVariants as piece_kind
use Rattle.mos_tree.specs.declared.form.PieceForm.{PieceForm}
use Rattle.mos_source.specs.declared.frame.Frame.TheVariants as frame_kind
use Rattle.mos_source.specs.declared.frame.Part.{Part}
use Rattle.mos_source.specs.declared.frame.Part.TheVariants as part
use Rattle.mos_source.specs.declared.place.Place.TheVariants as place_kind
use Rattle.mos_source.specs.declared.place.Role.{Role}
use Rattle.mos_source.specs.declared.place.Role.TheVariants.{Opens}
use Rattle.mos_tree.specs.Forms.{piece_kind_of}
use Rattle.mos_source.specs.Limits.{own_limit}
use Rattle.mos_source.specs.Places.{role_at}
use Rattle.mos_source.specs.Sources.{Source, IsSource, tree_of, limit}
use Rattle.mos_source.specs.Faults.{IsFaulty}
use Rattle.mos_source.specs.Laws.{ProductionsTakeSources, ProductionsTakeNothingElse, ProductionsBreakThere, ProductionsBreak}
use Rattle.mos_source.specs.Productions.{source, opens_block, form_at, took, broke, Reads, BreaksAt}
use Rattle.mos_source.specs.Machine.{Stack, enter, add_part, done, stopped, run}
use Rattle.mos_source.proofs.Steps.{step-role, run-step}
use Rattle.mos_source.proofs.Held.{is_model}
use Rattle.mos_source.proofs.Roles.{opens-there}
use Rattle.mos_source.proofs.SoundStep.{sound-enter}
use Rattle.mos_source.proofs.Whole.{Found, run-found, Stop, run-stopped, begins, is-stuck}
use Rattle.mos_source.proofs.Reading.{whole, one-fault, not-both}
use Rattle.mos_source.proofs.OneWay.{one-way, took-broke, took-same}
use Rattle.mos_source.proofs.Behind.{read-none}
use Rattle.mos_source.proofs.Waits.{opened_place, is_end}
use Rattle.mos_source.proofs.Counted.{unknown-nowhere, counts-own, counts-fits, counts-other, not-known, as-kind, Fails, fails-own, fails-none}
use Rattle.mos_source.proofs.Shapes.{At, opened-at, is_source}
use Rattle.mos_source.proofs.Descent.{Live, ReadAt, broken, taken, Reader, led, on, none-begins, read-block}

-- pieces read by the productions and by the reader
data ReadSource (pieces : List PieceForm) : Type 0 where
  breaks : (left : List PieceForm) (wrong : Kind) → Reads source 0 pieces (broke left) → run limit [] pieces ≡ stopped wrong left → ReadSource pieces
  ends : (tree : Tree) → Reads source 0 pieces (took []) → run limit [] pieces ≡ done tree → ReadSource pieces
  goes_on : (x : PieceForm) (xs : List PieceForm) (wrong : Kind) → Reads source 0 pieces (took (x ∷ xs)) → run limit [] pieces ≡ stopped wrong (x ∷ xs) → ReadSource pieces

-- ---- the first piece

start-form : (open_ : Bool) (x : PieceForm) → own_limit x.form ≡ None → opens_block (piece_kind_of x.form) ≡ open_ → form_at 0 x ≡ piece_kind_of x.form
start-form true x o b = counts-fits 0 x o b refl
start-form false x o b = counts-other 0 x o b

start-fails : (own : Option Kind) (x : PieceForm) → own_limit x.form ≡ own → role_at place_kind.Start (form_at 0 x) ≡ None → Fails [] x
start-fails (Some found) x o r = fails-own [] x found o
start-fails None x o r = fails-none [] x (as-kind place_kind.Start 0 x None (start-form (opens_block (piece_kind_of x.form)) x o refl) r)

start-own : (own : Option Kind) (x : PieceForm) (role : Role) → own_limit x.form ≡ own → role_at place_kind.Start (form_at 0 x) ≡ Some role → own_limit x.form ≡ None
start-own (Some found) x role o r = absurd (not-known place_kind.Start (form_at 0 x) role (counts-own 0 x found o) r)
start-own None x role o r = o

start-model : (x : PieceKind) (role : Role) → role_at place_kind.Start x ≡ Some role → (x ≡ piece_kind.Model) × (role ≡ Opens)
unfolding role_at
start-model piece_kind.Model role r = (refl, cc)
start-model _ role r = let no : ⊥ = cc in absurd no

-- ---- behind a whole source

ended : (x : Part) (next : Stack) → is_source x ≡ true → add_part x [] ≡ next → (tree : Tree) × (next ≡ frame_kind.End tree ∷ [])
ended (part.Source tree) next k e = (tree, sym e)
ended _ next k e = let no : ⊥ = cc in absurd no

end-nowhere : (x : PieceKind) → role_at place_kind.End x ≡ None
unfolding role_at
end-nowhere piece_kind.Unknown = refl
end-nowhere _ = refl

behind-source : (pieces : List PieceForm) (tree : Tree) (left : List PieceForm) → Reads source 0 pieces (took left) → run limit [] pieces ≡ run limit (frame_kind.End tree ∷ []) left → ReadSource pieces
unfolding Fails
behind-source pieces tree [] reads runs = ends tree reads runs
behind-source pieces tree (x ∷ xs) reads runs =
    let failed : Fails (frame_kind.End tree ∷ []) x = fails-none (frame_kind.End tree ∷ []) x (end-nowhere (piece_kind_of x.form)) in
    goes_on x xs failed.0 reads (runs ∙ rw failed.1 refl)

-- ---- the whole source

from-heads : (x : PieceForm) (xs : List PieceForm) (next : Stack) → form_at 0 x ≡ piece_kind.Model → role_at place_kind.Start (form_at 0 x) ≡ Some Opens → run limit [] (x ∷ xs) ≡ run limit next xs → ReadAt (opened_place (form_at 0 x)) [] next xs → ReadSource (x ∷ xs)
from-heads x xs next h r ran (broken left wrong reads stops) = breaks left wrong (on Opens place_kind.Start 0 x xs (broke left) refl r reads) (ran ∙ stops)
from-heads x xs next h r ran (taken left there reads runs adds live less) =
    let model : is_model (opened_place (form_at 0 x)) ≡ true = ap (λ z. is_model (opened_place z)) h in
    let end : (tree : Tree) × (there ≡ frame_kind.End tree ∷ []) = ended adds.part there (adds.kind ∙ model) adds.is in
    behind-source (x ∷ xs) end.0 left (on Opens place_kind.Start 0 x xs (took left) refl r reads) (ran ∙ runs ∙ ap (λ z. run limit z left) end.1)

from-model : (x : PieceForm) (xs : List PieceForm) → form_at 0 x ≡ piece_kind.Model → role_at place_kind.Start (form_at 0 x) ≡ Some Opens → ReadSource (x ∷ xs)
unfolding Reader Live
from-model x xs h r =
    let own : own_limit x.form ≡ None = start-own (own_limit x.form) x Opens refl r in
    let is : form_at 0 x ≡ piece_kind_of x.form = start-form (opens_block (piece_kind_of x.form)) x own refl in
    let here : role_at place_kind.Start (piece_kind_of x.form) ≡ Some Opens = as-kind place_kind.Start 0 x (Some Opens) is r in
    let next : Stack = enter Opens x.line x.form [] in
    let at : At [] (opened_place (form_at 0 x)) next = subst (λ z. At [] (opened_place z) next) (sym is) (opened-at x.line x.form [] (opens-there place_kind.Start (piece_kind_of x.form) here) own) in
    let inner : ReadAt (opened_place (form_at 0 x)) [] next xs = led (length xs) (opened_place (form_at 0 x)) [] next xs (read-block (length xs)) (omega arith) (ap (λ z. is_end (opened_place z)) h) (x ∷ [], sound-enter limit Opens [] x.line x.form [] refl here own refl) at in
    from-heads x xs next h r (run-step limit [] next x xs (step-role limit [] x Opens here own refl)) inner

from-role : (role : Option Role) (x : PieceForm) (xs : List PieceForm) → role_at place_kind.Start (form_at 0 x) ≡ role → ReadSource (x ∷ xs)
unfolding Fails
from-role None x xs r =
    let failed : Fails [] x = start-fails (own_limit x.form) x refl r in
    breaks (x ∷ xs) failed.0 (read-none source 0 (x ∷ xs) refl (none-begins place_kind.Start (form_at 0 x) refl r)) (rw failed.1 refl)
from-role (Some role) x xs r =
    let both : (form_at 0 x ≡ piece_kind.Model) × (role ≡ Opens) = start-model (form_at 0 x) role r in
    from-model x xs both.0 (subst (λ z. role_at place_kind.Start (form_at 0 x) ≡ Some z) both.1 r)

read-source : (pieces : List PieceForm) → ReadSource pieces
read-source [] = breaks [] kind.Syntax (read-none source 0 [] refl (none-begins place_kind.Start piece_kind.Unknown refl (unknown-nowhere place_kind.Start))) refl
read-source (x ∷ xs) = from-role (role_at place_kind.Start (form_at 0 x)) x xs refl

-- ---- sources

takes-source : (pieces : List PieceForm) (x : Source) → ReadSource pieces → IsSource pieces x → Reads source 0 pieces (took [])
takes-source pieces x (breaks left wrong reads e) is =
    let read : run limit [] pieces ≡ done (tree_of x) = whole pieces x is in
    let no : ⊥ = cc in
    absurd no
takes-source pieces x (ends tree reads e) is = reads
takes-source pieces x (goes_on y ys wrong reads e) is =
    let read : run limit [] pieces ≡ done (tree_of x) = whole pieces x is in
    let no : ⊥ = cc in
    absurd no

pub productions-take-sources : ProductionsTakeSources
productions-take-sources pieces x is = takes-source pieces x (read-source pieces) is

more-nothing : (x : PieceForm) (xs : List PieceForm) → x ∷ xs ≡ [] → ⊥
more-nothing x xs e = cc

takes-nothing-else : (pieces : List PieceForm) → ReadSource pieces → Reads source 0 pieces (took []) → (x : Source) × IsSource pieces x
takes-nothing-else pieces (breaks left wrong reads e) all = absurd (took-broke [] left (one-way source 0 pieces (took []) (broke left) all reads))
takes-nothing-else pieces (ends tree reads e) all =
    let it : Found limit pieces tree = run-found limit pieces [] [] tree refl e in
    (it.source, record { exact = it.exact; within = it.within })
takes-nothing-else pieces (goes_on x xs wrong reads e) all = absurd (more-nothing x xs (took-same (x ∷ xs) [] (one-way source 0 pieces (took (x ∷ xs)) (took []) reads all)))

pub productions-take-nothing-else : ProductionsTakeNothingElse
productions-take-nothing-else pieces all = takes-nothing-else pieces (read-source pieces) all

-- ---- the faulty piece

stopped-faulty : (pieces before after : List PieceForm) (wrong : Kind) → pieces ≡ before ++ after → run limit [] pieces ≡ stopped wrong after → IsFaulty before after
stopped-faulty pieces before after wrong cut e =
    let it : Stop limit [] [] pieces wrong after = run-stopped limit pieces [] [] wrong after (λ deeper h. refl) e in
    let same : it.before ≡ before = append_cancel_right it.before before after (sym it.cut ∙ cut) in
    subst (λ z. IsFaulty z after) same
    (record {
      begun = begins it.before it.top (it.held limit (omega arith));
      stuck = is-stuck it.before it.top after wrong (it.goes limit (omega arith)) it.stuck;
    })

broke-same : (xs ys : List PieceForm) → broke xs ≡ broke ys → xs ≡ ys
broke-same xs ys e = cc

stopped-there : (pieces before after left : List PieceForm) (wrong : Kind) → pieces ≡ before ++ after → left ≡ after → run limit [] pieces ≡ stopped wrong left → IsFaulty before after
stopped-there pieces before after left wrong cut same e = stopped-faulty pieces before after wrong cut (subst (λ z. run limit [] pieces ≡ stopped wrong z) same e)

breaks-there : (pieces before after : List PieceForm) → pieces ≡ before ++ after → ReadSource pieces → BreaksAt pieces after → IsFaulty before after
breaks-there pieces before after cut (breaks left wrong reads e) (inl there) = stopped-there pieces before after left wrong cut (broke-same left after (one-way source 0 pieces (broke left) (broke after) reads there)) e
breaks-there pieces before after cut (breaks left wrong reads e) (inr there) = absurd (took-broke after left (one-way source 0 pieces (took after) (broke left) there.0 reads))
breaks-there pieces before after cut (ends tree reads e) (inl there) = absurd (took-broke [] after (one-way source 0 pieces (took []) (broke after) reads there))
breaks-there pieces before after cut (ends tree reads e) (inr there) = absurd (there.1 (took-same after [] (one-way source 0 pieces (took after) (took []) there.0 reads)))
breaks-there pieces before after cut (goes_on x xs wrong reads e) (inl there) = absurd (took-broke (x ∷ xs) after (one-way source 0 pieces (took (x ∷ xs)) (broke after) reads there))
breaks-there pieces before after cut (goes_on x xs wrong reads e) (inr there) = stopped-there pieces before after (x ∷ xs) wrong cut (took-same (x ∷ xs) after (one-way source 0 pieces (took (x ∷ xs)) (took after) reads there.0)) e

pub productions-break-there : ProductionsBreakThere
productions-break-there before after there = breaks-there (before ++ after) before after refl (read-source (before ++ after)) there

-- the piece at which the reader stopped is the faulty one
is-there : (pieces before after left : List PieceForm) (wrong : Kind) → pieces ≡ before ++ after → IsFaulty before after → run limit [] pieces ≡ stopped wrong left → left ≡ after
is-there pieces before after left wrong cut faulty e =
    let it : Stop limit [] [] pieces wrong left = run-stopped limit pieces [] [] wrong left (λ deeper h. refl) e in
    let mine : IsFaulty it.before left = stopped-faulty pieces it.before left wrong it.cut e in
    let same : it.before ≡ before = one-fault it.before left before after (sym it.cut ∙ cut) mine faulty in
    append_cancel_left before left after (ap (λ z. z ++ left) (sym same) ∙ sym it.cut ∙ cut)

more-there : (x : PieceForm) (xs after : List PieceForm) → x ∷ xs ≡ after → after ≢ []
more-there x xs after e none = cc

breaks-each : (pieces before after : List PieceForm) → pieces ≡ before ++ after → ReadSource pieces → IsFaulty before after → BreaksAt pieces after
breaks-each pieces before after cut (breaks left wrong reads e) faulty = inl (subst (λ z. Reads source 0 pieces (broke z)) (is-there pieces before after left wrong cut faulty e) reads)
breaks-each pieces before after cut (ends tree reads e) faulty =
    let it : Found limit pieces tree = run-found limit pieces [] [] tree refl e in
    absurd (not-both before after it.source (record { exact = sym cut ∙ it.exact; within = it.within }) faulty)
breaks-each pieces before after cut (goes_on x xs wrong reads e) faulty =
    let same : x ∷ xs ≡ after = is-there pieces before after (x ∷ xs) wrong cut faulty e in
    inr (subst (λ z. Reads source 0 pieces (took z)) same reads, more-there x xs after same)

pub productions-break : ProductionsBreak
productions-break before after faulty = breaks-each (before ++ after) before after refl (read-source (before ++ after)) faulty

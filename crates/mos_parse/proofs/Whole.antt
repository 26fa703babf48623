-- What is answered of a source, from what is answered of its tokens.

use Rattle.std.proofs.Common.{◌≡◌, ℕ, ◌≤◌, List, ◌++◌, length, Option, Result, Ok, Err, IfOk, IfErr, refl, sym, ◌∙◌, ap, subst, arith}
use Rattle.std.proofs.lemmas.List.{append_cancel_left}
use Rattle.mos_text.specs.declared.kind.Kind.{Kind}
use Rattle.mos_tree.specs.declared.source.Tree.{Tree}
use Rattle.mos_tree.specs.declared.form.PieceForm.{PieceForm}
use Rattle.mos_tree.specs.Sizes.{size_of_tree}
use Rattle.mos_scan.specs.declared.token.Token.{Token}
use Rattle.mos_scan.specs.declared.fault.LexFault.{LexFault}
use Rattle.mos_scan.specs.declared.fault.LexFault.TheVariants as lex
use Rattle.mos_scan.specs.Cuts.{IsTokenList}
use Rattle.mos_scan.specs.Scans as scans
use Rattle.mos_source.specs.Sources.{IsSource}
use Rattle.mos_source.specs.Faults.{IsKind, too_early, beyond, misplaced as out_of_place, line_of_first, FaultyOn}
use Rattle.mos_source.specs.Laws.{HaveOneFault, HaveNotBoth}
use Rattle.mos_source.specs.Answers.{IsTree, BreaksOn}
use Rattle.mos_parse.specs.declared.fault.SyntaxFault.{SyntaxFault}
use Rattle.mos_parse.specs.declared.fault.SyntaxFault.TheVariants.{Refused, NoMemory}
use Rattle.mos_parse.specs.Parsed.{HasForms, IsParsed, line_or_last, IsFaultyLine, BreaksOnLine, IsSyntaxFault, lexical, misplaced}
use Rattle.mos_parse.specs.Laws.{NoSourceHasBoth, SourcesHaveOneTree, SourcesHaveOneFault, SourcesHaveOneListOfForms}
use Rattle.mos_parse.specs.Answers.{GivesTree, GivesFault, IsFaultOf, BreaksBy}
use Rattle.mos_parse.specs.Steps.{of_tokens, HasFault, IsReading, Reads}

-- ---- where there are tokens

-- the forms that were read are those of the source
read_forms : (source : List ℕ) (tokens : List Token) (result : Result Tree SyntaxFault) → IsTokenList source tokens → (r : IsReading source tokens result) → HasForms source r.forms
read_forms source tokens result cut r = record { tokens = tokens; cut = cut; pieces = r.pieces; parted = r.parted; forms_are = r.have.are }

pub tokens_faulty : (source : List ℕ) (tokens : List Token) (result : Result Tree SyntaxFault) → IsTokenList source tokens → Reads source tokens result → IfErr result (IsFaultOf source)
tokens_faulty source tokens (Ok tree) cut r = tt
tokens_faulty source tokens (Err NoMemory) cut r = tt
tokens_faulty source tokens (Err (Refused refusal)) cut r = misplaced r.forms (read_forms source tokens (Err (Refused refusal)) cut r) r.says.faulty

pub tokens_found : (source : List ℕ) (tokens : List Token) (result : Result Tree SyntaxFault) → IsTokenList source tokens → Reads source tokens result → IfOk result (IsParsed source)
tokens_found source tokens (Ok tree) cut r = record { forms = r.forms; read = read_forms source tokens (Ok tree) cut r; tree_is = r.says.tree_is }
tokens_found source tokens (Err x) cut r = tt

-- forms with a tree have no faulty piece
pub never_both : HaveNotBoth → (source : List ℕ) (forms : List PieceForm) (tree : Tree) (line : ℕ) (kind : Kind) → IsTree forms tree → IsFaultyLine source forms line kind → ⊥
never_both law source forms tree line kind t f =
    law f.faulty.before f.faulty.after t.0 (subst (λ z. IsSource z t.0) f.faulty.cut t.1) f.faulty.faulty

one_kind : (before after : List PieceForm) (k l : Kind) → IsKind before after k → IsKind before after l → k ≡ l
one_kind before after k l too_early too_early = refl
one_kind before after k l (beyond x xs c) (beyond y ys d) = refl
one_kind before after k l (beyond x xs c) (out_of_place y ys d) = absurd (d c)
one_kind before after k l (out_of_place x xs c) (beyond y ys d) = absurd (c d)
one_kind before after k l (out_of_place x xs c) (out_of_place y ys d) = refl

pub one_line : HaveOneFault → (source : List ℕ) (forms : List PieceForm) (line at : ℕ) (kind what : Kind) → IsFaultyLine source forms line kind → IsFaultyLine source forms at what → (at ≡ line) × (what ≡ kind)
one_line law source forms line at kind what f g =
    let cuts : f.faulty.before ++ f.faulty.after ≡ g.faulty.before ++ g.faulty.after = sym f.faulty.cut ∙ g.faulty.cut in
    let before : f.faulty.before ≡ g.faulty.before = law f.faulty.before f.faulty.after g.faulty.before g.faulty.after cuts f.faulty.faulty g.faulty.faulty in
    let after : f.faulty.after ≡ g.faulty.after = append_cancel_left g.faulty.before f.faulty.after g.faulty.after (subst (λ z. z ++ f.faulty.after ≡ g.faulty.before ++ g.faulty.after) before cuts) in
    let moved : IsKind g.faulty.before g.faulty.after kind = subst (λ z. IsKind g.faulty.before z kind) after (subst (λ z. IsKind z f.faulty.after kind) before f.faulty.named) in
    let there : g.at ≡ f.at = g.faulty.line_is ∙ ap (λ z. line_of_first z) (sym after) ∙ sym f.faulty.line_is in
    (g.line_is ∙ ap (λ z. line_or_last source z) there ∙ sym f.line_is, one_kind g.faulty.before g.faulty.after what kind g.faulty.named moved)

-- the faulty piece is the one at which the productions break
pub tokens_breaks : SourcesHaveOneListOfForms → (source : List ℕ) (tokens : List Token) (result : Result Tree SyntaxFault) → IsTokenList source tokens → Reads source tokens result → IfErr result (BreaksBy source)
tokens_breaks law source tokens (Ok x) cut r = tt
tokens_breaks law source tokens (Err NoMemory) cut r = tt
tokens_breaks law source tokens (Err (Refused refusal)) cut r =
    λ forms h. subst (λ z. BreaksOnLine source z refusal.line) (law source r.forms forms (read_forms source tokens (Err (Refused refusal)) cut r) h) r.says.breaks

-- a tree is no larger than its pieces, these have no more nodes than words, and a source has a byte for each word
pub tokens_no_larger : (source : List ℕ) (tokens : List Token) (result : Result Tree SyntaxFault) → length tokens ≤ length source → Reads source tokens result → IfOk result (λ tree. size_of_tree tree ≤ length source)
tokens_no_larger source tokens (Ok tree) few r = omega (arith, few, r.says.small, r.have.small, r.few)
tokens_no_larger source tokens (Err x) few r = tt

-- the fault of forms, by the line of the faulty piece
pub faulty_line : (source : List ℕ) (forms : List PieceForm) (at : Option ℕ) (line : ℕ) (kind : Kind) → FaultyOn forms at kind → BreaksOn forms at → line ≡ line_or_last source at
    → HasFault source forms (record { line = line; kind = kind })
faulty_line source forms at line kind f b e = record { faulty = record { at = at; faulty = f; line_is = e }; breaks = record { at = at; breaks = b; line_is = e } }

-- ---- where there are none

pub fault_faulty : (source : List ℕ) (fault : LexFault) → scans.IsFaultOf source fault → IsFaultOf source (of_tokens fault)
fault_faulty source (lex.At line column kind) f = lexical column f
fault_faulty source lex.NoMemory f = tt

-- the tokens that there may be are not found for want of memory alone
abbrev pub Lacks : List ℕ → LexFault → Type 0
Lacks source fault = (tokens : List Token) → IsTokenList source tokens → scans.IsNoMemory fault

-- a source without tokens has no pieces
pub fault_breaks : (source : List ℕ) (fault : LexFault) → Lacks source fault → BreaksBy source (of_tokens fault)
fault_breaks source (lex.At line column kind) lacks = λ forms h. absurd (lacks h.tokens h.cut)
fault_breaks source lex.NoMemory lacks = tt

-- ---- there is no other answer

pub gives_tree : SourcesHaveOneTree → NoSourceHasBoth → (source : List ℕ) (r : Result Tree SyntaxFault) → IfOk r (IsParsed source) → IfErr r (IsFaultOf source) → (tree : Tree) → IsParsed source tree → GivesTree r tree
gives_tree one both source (Ok x) found faulty tree h = one source x tree found h
gives_tree one both source (Err NoMemory) found faulty tree h = tt
gives_tree one both source (Err (Refused refusal)) found faulty tree h = both source tree refusal.line refusal.kind h faulty

pub gives_fault : SourcesHaveOneFault → NoSourceHasBoth → (source : List ℕ) (r : Result Tree SyntaxFault) → IfOk r (IsParsed source) → IfErr r (IsFaultOf source)
    → (line : ℕ) (kind : Kind) → IsSyntaxFault source line kind → GivesFault r line kind
gives_fault one both source (Ok x) found faulty line kind f = both source x line kind found f
gives_fault one both source (Err NoMemory) found faulty line kind f = tt
gives_fault one both source (Err (Refused refusal)) found faulty line kind f = one source refusal.line line refusal.kind kind faulty f

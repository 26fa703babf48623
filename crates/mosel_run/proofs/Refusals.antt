-- A source has one tree that is sound, or one fault.

use Rattle.std.proofs.Common.{◌≡◌, ℕ, List, Option, Some, None, Result, Ok, Err, sym, ap, ◌∙◌, subst}
use Rattle.std.specs.Prelude.{IfErr}
use Rattle.std.specs.Result.{IsErrAnd}
use Rattle.mos_text.specs.declared.kind.Kind.{Kind}
use Rattle.mos_tree.specs.declared.refusal.Refusal.{Refusal}
use Rattle.mos_tree.specs.declared.source.Tree.{Tree}
use Rattle.mos_parse.specs.Parsed.{IsParsed, IsSyntaxFault}
use Rattle.mos_parse.specs.Answers.{IsFaultOf, GivesTree as ParsesTo, GivesFault as ParsesNot}
use Rattle.mos_parse.specs.declared.fault.SyntaxFault.{SyntaxFault}
use Rattle.mos_parse.specs.declared.fault.SyntaxFault.TheVariants as syntax
use Rattle.mos_check.specs.NotBuilt.{unbuilt_of}
use Rattle.mos_check.specs.Names.{Names, Found, Wrong, Knows, check_of}
use Rattle.mosel_run.specs.declared.reader.fault.ReadFault.{ReadFault}
use Rattle.mosel_run.specs.declared.reader.fault.ReadFault.TheVariants.{Refused, NoMemory}
use Rattle.mosel_run.specs.Accepted.{IsOnlyRefusal, IsSound, IsWrongAt, not_built, found, IsAccepted, IsRefusedAt, unparsed, wrong}
use Rattle.mosel_run.specs.ReadAnswers.{IsRefusal, IsJudged, GivesTree, GivesRefusal, of_syntax}

abbrev pub Same : ℕ → Kind → ℕ → Kind → Type 0
Same line kind at what = (line ≡ at) × (kind ≡ what)

some-one : (line at : ℕ) (kind what : Kind) (x : Option (ℕ × Kind)) → x ≡ Some (line, kind) → x ≡ Some (at, what) → Same line kind at what
some-one line at kind what x e f =
    let pair : ◌≡◌ {A = ℕ × Kind} (line, kind) (at, what) = cc in
    (ap (λ (p : ℕ × Kind). p.0) pair, ap (λ (p : ℕ × Kind). p.1) pair)

some-none : {A : Type 0} (x : Option A) (y : A) → x ≡ Some y → x ≡ None → ⊥
some-none x y e f = cc

wrong-one : (line at : ℕ) (kind what : Kind) (x : Found) → x ≡ Wrong line kind → x ≡ Wrong at what → Same line kind at what
wrong-one line at kind what x e f =
    let same : Wrong line kind ≡ Wrong at what = sym e ∙ f in
    (cc, cc)

wrong-knows : (line : ℕ) (kind : Kind) (names : Names) (x : Found) → x ≡ Wrong line kind → x ≡ Knows names → ⊥
wrong-knows line kind names x e f = cc

-- a tree is wrong in one way
pub one-wrong : (tree : Tree) (line at : ℕ) (kind what : Kind) → IsWrongAt tree line kind → IsWrongAt tree at what → Same line kind at what
one-wrong _ _ _ _ _ (not_built tree line kind e) (not_built _ at what f) = some-one line at kind what (unbuilt_of tree) e f
one-wrong _ _ _ _ _ (not_built tree line kind e) (found _ at what none f) = absurd (some-none (unbuilt_of tree) (line, kind) e none)
one-wrong _ _ _ _ _ (found tree line kind none e) (not_built _ at what f) = absurd (some-none (unbuilt_of tree) (at, what) f none)
one-wrong _ _ _ _ _ (found tree line kind none e) (found _ at what also f) = wrong-one line at kind what (check_of tree) e f

-- a sound tree is not wrong
pub not-wrong : (tree : Tree) (line : ℕ) (kind : Kind) → IsWrongAt tree line kind → IsSound tree → ⊥
not-wrong _ _ _ (not_built tree line kind e) h = some-none (unbuilt_of tree) (line, kind) e h.built
not-wrong _ _ _ (found tree line kind none e) h = wrong-knows line kind h.checked.names (check_of tree) e h.checked.known

-- the source has this tree alone, and no fault of tokens or grammar
pub record HasOnly (source : List ℕ) (tree : Tree) : Type 0 where
  pub parsed : IsParsed source tree
  pub only : (other : Tree) → IsParsed source other → tree ≡ other
  pub only_fault : (line : ℕ) (kind : Kind) → IsSyntaxFault source line kind → ⊥

-- what is refused is wrong with the tree
pub wrong-there : (source : List ℕ) (tree : Tree) (line : ℕ) (kind : Kind) → HasOnly source tree → IsRefusedAt source line kind → IsWrongAt tree line kind
wrong-there _ tree _ _ has (unparsed source line kind h) = absurd (has.only_fault line kind h)
wrong-there _ tree _ _ has (wrong source line kind other h w) = subst (λ (t : Tree). IsWrongAt t line kind) (sym (has.only other h)) w

pub syntax-refusal : {A : Type 0} (source : List ℕ) (fault : SyntaxFault) (result : Result A ReadFault) → IsFaultOf source fault
    → IsErrAnd result (λ x. x ≡ of_syntax fault) → IfErr result (IsRefusal source)
syntax-refusal source fault (Ok x) h e = tt
syntax-refusal source (syntax.Refused refusal) (Err x) h e = subst (IsRefusal source) (sym e) (unparsed source refusal.line refusal.kind h)
syntax-refusal source syntax.NoMemory (Err x) h e = subst (IsRefusal source) (sym e) tt

pub judged-refusal : (source : List ℕ) (tree : Tree) (fault : ReadFault) → HasOnly source tree → IsJudged tree fault → IsRefusal source fault
judged-refusal source tree (Refused refusal) has h = wrong source refusal.line refusal.kind tree has.parsed h
judged-refusal source tree NoMemory has h = tt

pub judged-only_tree : (source : List ℕ) (tree : Tree) (fault : ReadFault) → HasOnly source tree → IsJudged tree fault
    → (other : Tree) → IsAccepted source other → GivesTree (Err fault) other
judged-only_tree source tree (Refused refusal) has h other accepted =
    not-wrong tree refusal.line refusal.kind h (subst IsSound (sym (has.only other accepted.parsed)) accepted.sound)
judged-only_tree source tree NoMemory has h other accepted = tt

pub judged-only_refusal : (source : List ℕ) (tree : Tree) (fault : ReadFault) → HasOnly source tree → IsJudged tree fault
    → (line : ℕ) (kind : Kind) → IsRefusedAt source line kind → GivesRefusal (Err fault) line kind
judged-only_refusal source tree (Refused refusal) has h line kind refused =
    one-wrong tree refusal.line line refusal.kind kind h (wrong-there source tree line kind has refused)
judged-only_refusal source tree NoMemory has h line kind refused = tt

pub sound-only_refusal : (source : List ℕ) (tree : Tree) → HasOnly source tree → IsSound tree
    → (line : ℕ) (kind : Kind) → IsRefusedAt source line kind → ⊥
sound-only_refusal source tree has sound line kind refused = not-wrong tree line kind (wrong-there source tree line kind has refused) sound

-- what holds of a fault holds of the answer that hands it on
pub handed-on : (P : Result Tree ReadFault → Type 0) (fault : ReadFault) (result : Result Tree ReadFault) → P (Err fault)
    → IsErrAnd result (λ x. x ≡ fault) → P result
handed-on P fault (Ok x) h e = absurd e
handed-on P fault (Err x) h e = subst (λ (y : ReadFault). P (Err y)) (sym e) h

pub syntax-only_tree : (source : List ℕ) (fault : SyntaxFault) (result : Result Tree ReadFault) → ((tree : Tree) → IsParsed source tree → ParsesTo (Err fault) tree)
    → IsErrAnd result (λ x. x ≡ of_syntax fault) → (tree : Tree) → IsAccepted source tree → GivesTree result tree
syntax-only_tree source (syntax.Refused refusal) result only e tree accepted = absurd (only tree accepted.parsed)
syntax-only_tree source syntax.NoMemory result only e tree accepted = handed-on (λ (r : Result Tree ReadFault). GivesTree r tree) NoMemory result tt e

pub syntax-only_refusal : (source : List ℕ) (fault : SyntaxFault) (result : Result Tree ReadFault) → ((tree : Tree) → IsParsed source tree → ParsesTo (Err fault) tree)
    → ((line : ℕ) (kind : Kind) → IsSyntaxFault source line kind → ParsesNot (Err fault) line kind) → IsErrAnd result (λ x. x ≡ of_syntax fault)
    → (line : ℕ) (kind : Kind) → IsRefusedAt source line kind → GivesRefusal result line kind
syntax-only_refusal _ (syntax.Refused refusal) result only named e _ _ (unparsed source line kind h) =
    handed-on (λ (r : Result Tree ReadFault). GivesRefusal r line kind) (Refused refusal) result (named line kind h) e
syntax-only_refusal _ (syntax.Refused refusal) result only named e _ _ (wrong source line kind tree h w) = absurd (only tree h)
syntax-only_refusal source syntax.NoMemory result only named e line kind refused = handed-on (λ (r : Result Tree ReadFault). GivesRefusal r line kind) NoMemory result tt e

-- a refusal of the reader is the only one
pub only-refusal : (source : List ℕ) (fault : ReadFault) (refusal : Refusal) → fault ≡ Refused refusal
    → ((tree : Tree) → IsAccepted source tree → GivesTree (Err fault) tree)
    → ((at : ℕ) (what : Kind) → IsRefusedAt source at what → GivesRefusal (Err fault) at what)
    → IsOnlyRefusal source refusal.line refusal.kind
only-refusal source fault refusal is no_tree one = record {
  one = λ at what h. subst (λ (f : ReadFault). GivesRefusal (Err f) at what) is (one at what h);
  never = λ tree h. subst (λ (f : ReadFault). GivesTree (Err f) tree) is (no_tree tree h);
}

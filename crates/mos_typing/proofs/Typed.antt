-- What is said of a type.

use Rattle.std.proofs.Common.{◌≡◌, Bool, true, false, List, [], ◌∷◌, ◌++◌, Option, Some, None, Result, Ok, Err, refl, sym, ◌∙◌, ap, subst, arith, append_assoc}
use Rattle.mos_tree.specs.declared.declaration.BaseType.{BaseType}
use Rattle.mos_tree.specs.declared.declaration.BaseType.TheVariants as base
use Rattle.mos_tree.specs.declared.declaration.Dimension.{Dimension}
use Rattle.mos_tree.specs.declared.declaration.TypeForm.{TypeForm}
use Rattle.mos_tree.specs.declared.declaration.TypeForm.TheVariants as typ
use Rattle.mos_scan.specs.declared.token.TokenKind.TheVariants as token_kind
use Rattle.mos_scan.specs.declared.grammar_word.Word.{Word}
use Rattle.mos_scan.specs.declared.grammar_word.Word.TheVariants as word_kind
use Rattle.mos_expr.specs.Said.{Gives, Says}
use Rattle.mos_expr.specs.declared.fault.ExprFault.{ExprFault}
use Rattle.mos_expr.specs.declared.fault.ExprFault.TheVariants as expr_fault
use Rattle.mos_typing.specs.Typing.{Dims, Typing, of_base, a_range, a_set, a_list, an_array, base_word, base_words, dynamic_words, dims_words, typing_words, dimensions_of, type_of, tallest_type, TypeIsGrouped}
use Rattle.mos_typing.specs.Joining.{on_ok, or_nothing}
use Rattle.mos_typing.specs.Reader.{base_of, plain_type}
use Rattle.mos_typing.specs.Shapes.{set_of, array_of}
use Rattle.mos_typing.specs.Parts.{AreDimensions}
use Rattle.mos_typing.specs.Spellings.{IsTypeForm}
use Rattle.mos_typing.proofs.Bases.{base_known, base_read}
use Rattle.mos_typing.proofs.Cases.{some_same, none_some}
use Rattle.mos_typing.proofs.Ended.{SameEnd, behind_same}
use Rattle.mos_typing.proofs.Saying.{says_nothing, says_made, says_gives, says_on_ok}

-- ---- arrays

abbrev pub words_of_array : Bool → List Word → Word → List Word
words_of_array dynamic ds b = dynamic_words dynamic ++ array_of ds b

pub array_words : (dynamic : Bool) (ds : Dims) (b : BaseType) → typing_words (an_array dynamic ds b) ≡ words_of_array dynamic (dims_words ds) (base_word b)
array_words dynamic ds b = ap (λ z. dynamic_words dynamic ++ word_kind.Key token_kind.Array ∷ word_kind.Key token_kind.OpenRound ∷ z) (append_assoc (dims_words ds) (word_kind.Key token_kind.CloseRound ∷ []) (word_kind.Key token_kind.Of ∷ base_words b))

-- the type is this array
pub record IsArray (dynamic : Bool) (ds : List Word) (b : Word) (x : Typing) : Type 0 where
  pub dims : Dims
  pub cell : BaseType
  pub is : x ≡ an_array dynamic dims cell
  pub inside : ds ≡ dims_words dims
  pub cell_is : b ≡ base_word cell

same_array : (dynamic : Bool) (ds : List Word) (b : Word) (dims : Dims) (cell : BaseType) → array_of ds b ≡ array_of (dims_words dims) (base_word cell) → IsArray dynamic ds b (an_array dynamic dims cell)
same_array dynamic ds b dims cell e =
    let more : List Word = word_kind.Key token_kind.CloseRound ∷ word_kind.Key token_kind.Of ∷ [] in
    let p : ds ++ (more ++ b ∷ []) ≡ dims_words dims ++ (more ++ base_word cell ∷ []) = cc in
    let k : SameEnd ds (dims_words dims) b (base_word cell) = behind_same ds (dims_words dims) more b (base_word cell) p in
    record { dims = dims; cell = cell; is = refl; inside = k.fronts; cell_is = k.lasts }

pub array_back : (dynamic : Bool) (ds : List Word) (b : Word) (x : Typing) → words_of_array dynamic ds b ≡ typing_words x → IsArray dynamic ds b x
array_back true ds b (an_array true dims cell) e =
    let p : word_kind.Key token_kind.Dynamic ∷ array_of ds b ≡ word_kind.Key token_kind.Dynamic ∷ array_of (dims_words dims) (base_word cell) = e ∙ array_words true dims cell in
    let q : array_of ds b ≡ array_of (dims_words dims) (base_word cell) = cc in
    same_array true ds b dims cell q
array_back false ds b (an_array false dims cell) e = same_array false ds b dims cell (e ∙ array_words false dims cell)
array_back true ds b (of_base base.Integer) e = cc
array_back false ds b (of_base base.Integer) e = cc
array_back _ ds b _ e = cc

cell_read : (b : Word) (cell : BaseType) → b ≡ base_word cell → base_of b ≡ Some cell
cell_read b cell e = ap base_of e ∙ base_read cell

pub says_no_cell : (dynamic : Bool) (ds : List Word) (b : Word) → None ≡ base_of b → Says (IsTypeForm (words_of_array dynamic ds b)) (Err expr_fault.NoExpr)
says_no_cell dynamic ds b e =
    says_nothing (IsTypeForm (words_of_array dynamic ds b))
    (λ made h k. let a : IsArray dynamic ds b k.written = array_back dynamic ds b k.written k.exact in none_some (base_of b) a.cell (sym e) (cell_read b a.cell a.cell_is))

pub says_array : (dynamic : Bool) (ds : List Word) (b : Word) (cell : BaseType) (r : Result (List Dimension) ExprFault) (s : Result TypeForm ExprFault) → Some cell ≡ base_of b → Says (AreDimensions ds) r → s ≡ on_ok (λ z. typ.Array dynamic z cell) r → Says (IsTypeForm (words_of_array dynamic ds b)) s
says_array dynamic ds b cell r s e k i =
    let word : b ≡ base_word cell = base_known b cell (sym e) in
    subst (Says (IsTypeForm (words_of_array dynamic ds b))) (sym i)
    (says_on_ok (AreDimensions ds) (IsTypeForm (words_of_array dynamic ds b)) (λ z. typ.Array dynamic z cell) r
    (λ made h q. record {
      written = an_array dynamic q.written cell;
      grouped = q.grouped;
      exact = ap (λ z. words_of_array dynamic z b) q.exact ∙ ap (words_of_array dynamic (dims_words q.written)) word ∙ sym (array_words dynamic q.written cell);
      is = ap (λ z. typ.Array dynamic z cell) q.is;
      high_is = q.high_is;
    })
    (λ made h q.
    let a : IsArray dynamic ds b q.written = array_back dynamic ds b q.written q.exact in
    let same : a.cell ≡ cell = some_same (base_of b) a.cell cell (cell_read b a.cell a.cell_is) (sym e) in (
      dimensions_of a.dims,
      record {
        written = a.dims;
        grouped = subst TypeIsGrouped a.is q.grouped;
        exact = a.inside;
        is = refl;
        high_is = q.high_is ∙ ap tallest_type a.is;
      },
      q.is ∙ ap type_of a.is ∙ ap (typ.Array dynamic (dimensions_of a.dims)) same,
    )) k)

-- ---- types that are no arrays

base_made : (f : BaseType → TypeForm) (q : Option BaseType) (made : TypeForm) → on_ok f (or_nothing q) ≡ Ok made → (b : BaseType) × (q ≡ Some b) × (made ≡ f b)
base_made f None made e = cc
base_made f (Some b) made e = (b, refl, cc)

base_fault : (f : BaseType → TypeForm) (q : Option BaseType) (fault : ExprFault) → on_ok f (or_nothing q) ≡ Err fault → fault ≡ expr_fault.NoExpr
base_fault f None fault e = cc
base_fault f (Some b) fault e = cc

plain_known : (words : List Word) (made : TypeForm) → plain_type words ≡ Ok made → IsTypeForm words made 0
plain_known (word_kind.Key token_kind.Range ∷ []) made e = record { written = a_range; grouped = tt; exact = refl; is = cc; high_is = refl }
plain_known (word_kind.Key token_kind.Set ∷ word_kind.Key token_kind.Of ∷ b ∷ []) made e =
    let k = base_made typ.Set (base_of b) made e in record { written = a_set k.0; grouped = tt; exact = ap set_of (base_known b k.0 k.1); is = k.2; high_is = refl }
plain_known (word_kind.Key token_kind.List ∷ word_kind.Key token_kind.Of ∷ b ∷ []) made e =
    let k = base_made typ.List (base_of b) made e in record { written = a_list k.0; grouped = tt; exact = ap (λ z. word_kind.Key token_kind.List ∷ word_kind.Key token_kind.Of ∷ z ∷ []) (base_known b k.0 k.1); is = k.2; high_is = refl }
plain_known (b ∷ []) made e =
    let k = base_made typ.Base (base_of b) made e in record { written = of_base k.0; grouped = tt; exact = ap (λ z. z ∷ []) (base_known b k.0 k.1); is = k.2; high_is = refl }
plain_known _ made e = cc

plain_fault : (words : List Word) (fault : ExprFault) → plain_type words ≡ Err fault → fault ≡ expr_fault.NoExpr
plain_fault (word_kind.Key token_kind.Range ∷ []) fault e = cc
plain_fault (word_kind.Key token_kind.Set ∷ word_kind.Key token_kind.Of ∷ b ∷ []) fault e = base_fault typ.Set (base_of b) fault e
plain_fault (word_kind.Key token_kind.List ∷ word_kind.Key token_kind.Of ∷ b ∷ []) fault e = base_fault typ.List (base_of b) fault e
plain_fault (b ∷ []) fault e = base_fault typ.Base (base_of b) fault e
plain_fault _ fault e = cc

abbrev pub NoArray : List Word → Type 0
NoArray words = (dynamic : Bool) (ds : List Word) (b : Word) → words ≡ words_of_array dynamic ds b → ⊥

no_array : (words : List Word) → ((rest : List Word) → words ≡ word_kind.Key token_kind.Dynamic ∷ rest → ⊥) → ((ds : List Word) (b : Word) → words ≡ array_of ds b → ⊥) → NoArray words
no_array words n m true ds b e = n (array_of ds b) e
no_array words n m false ds b e = m ds b e

-- what is said of any type that is no array
pub record IsRead (x : Typing) : Type 0 where
  pub value : plain_type (typing_words x) ≡ Ok (type_of x)
  pub high_is : tallest_type x ≡ 0

pub plain_read : (words : List Word) → NoArray words → (x : Typing) → words ≡ typing_words x → IsRead x
plain_read words n (an_array dynamic dims cell) e = absurd (n dynamic (dims_words dims) (base_word cell) (e ∙ array_words dynamic dims cell))
plain_read words n (of_base base.Integer) e = record { value = refl; high_is = refl }
plain_read words n (a_set base.Integer) e = record { value = refl; high_is = refl }
plain_read words n (a_list base.Integer) e = record { value = refl; high_is = refl }
plain_read words n _ e = record { value = refl; high_is = refl }

pub plain_says : (words : List Word) (y : Result TypeForm ExprFault) → NoArray words → plain_type words ≡ y → Says (IsTypeForm words) y
plain_says words (Ok made) n e =
    says_made (IsTypeForm words) made 0 (plain_known words made e) (omega arith)
    (λ other h k.
    let r : IsRead k.written = plain_read words n k.written k.exact in
    let q : Ok (type_of k.written) ≡ Ok made = sym (ap plain_type k.exact ∙ r.value) ∙ e in
    let o : type_of k.written ≡ made = cc in
    let l : h ≡ 0 = k.high_is ∙ r.high_is in
    (k.is ∙ o, omega arith))
plain_says words (Err fault) n e =
    subst (λ z. Says (IsTypeForm words) (Err z)) (sym (plain_fault words fault e))
    (says_nothing (IsTypeForm words)
    (λ other h k.
    let r : IsRead k.written = plain_read words n k.written k.exact in
    let q : Ok (type_of k.written) ≡ Err fault = sym (ap plain_type k.exact ∙ r.value) ∙ e in
    cc))

pub says_plain : (words : List Word) (r : Result TypeForm ExprFault) → ((rest : List Word) → words ≡ word_kind.Key token_kind.Dynamic ∷ rest → ⊥) → ((ds : List Word) (b : Word) → words ≡ array_of ds b → ⊥) → Gives r (plain_type words) → Says (IsTypeForm words) r
says_plain words r n m g = says_gives (IsTypeForm words) r (plain_type words) g (plain_says words (plain_type words) (no_array words n m) refl)

-- ---- the word `dynamic`

no_dynamic : (words : List Word) → ((ds : List Word) (b : Word) → words ≡ array_of ds b → ⊥) → (x : Typing) → word_kind.Key token_kind.Dynamic ∷ words ≡ typing_words x → ⊥
no_dynamic words n (an_array true dims cell) e =
    let p : word_kind.Key token_kind.Dynamic ∷ words ≡ word_kind.Key token_kind.Dynamic ∷ array_of (dims_words dims) (base_word cell) = e ∙ array_words true dims cell in
    n (dims_words dims) (base_word cell) cc
no_dynamic words n (of_base base.Integer) e = cc
no_dynamic words n _ e = cc

pub says_no_dynamic : (words : List Word) → ((ds : List Word) (b : Word) → words ≡ array_of ds b → ⊥) → Says (IsTypeForm (word_kind.Key token_kind.Dynamic ∷ words)) (Err expr_fault.NoExpr)
says_no_dynamic words n = says_nothing (IsTypeForm (word_kind.Key token_kind.Dynamic ∷ words)) (λ made h k. no_dynamic words n k.written k.exact)

-- what is said of an array is said of the words that are one
pub says_as : (words more : List Word) (r : Result TypeForm ExprFault) → words ≡ more → Says (IsTypeForm more) r → Says (IsTypeForm words) r
says_as words more r e k = subst (λ z. Says (IsTypeForm z) r) (sym e) k

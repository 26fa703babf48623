-- What is said of the indexes of an array.

use Rattle.std.proofs.Common.{◌≡◌, ℕ, ◌+◌, ◌≤◌, max, true, false, List, [], ◌∷◌, ◌++◌, Some, None, Result, Ok, refl, sym, ◌∙◌, ap, subst, arith}
use Rattle.mos_tree.specs.declared.expr.Expr.{Expr}
use Rattle.mos_tree.specs.declared.declaration.BaseType.{BaseType}
use Rattle.mos_tree.specs.declared.declaration.BaseType.TheVariants as base
use Rattle.mos_tree.specs.declared.declaration.Dimension.{Dimension}
use Rattle.mos_tree.specs.declared.declaration.Dimension.TheVariants as dimension
use Rattle.mos_scan.specs.declared.token.TokenKind.TheVariants as token_kind
use Rattle.mos_scan.specs.declared.grammar_word.Word.{Word}
use Rattle.mos_scan.specs.declared.grammar_word.Word.TheVariants as word_kind
use Rattle.mos_expr.specs.Grammar.{Syntax, spell, tree, limit}
use Rattle.mos_expr.specs.declared.fault.ExprFault.{ExprFault}
use Rattle.mos_typing.specs.Typing.{Dim, any_range, any_set, within, Dims, last_dim, and_dim, base_word, base_words, dim_words, dims_words, dimension_of, dimensions_of, tallest_dim, tallest_dims, DimIsGrouped, DimsAreGrouped}
use Rattle.mos_typing.specs.PhraseWords.{ArePlain}
use Rattle.mos_typing.specs.declared.cut.Mark.TheVariants as marks
use Rattle.mos_typing.specs.Cutting.{halves_at}
use Rattle.mos_typing.specs.Joining.{on_ok, or_nothing, both, alone, first_of}
use Rattle.mos_typing.specs.Reader.{base_of}
use Rattle.mos_typing.specs.Shapes.{is_range, set_of}
use Rattle.mos_expr.specs.Said.{IsExpression, Says, Gives}
use Rattle.mos_typing.specs.Parts.{IsDimension, AreDimensions}
use Rattle.mos_typing.proofs.Bases.{base_known, base_read, IsBase, says_base}
use Rattle.mos_typing.proofs.Cases.{none_some, some_same}
use Rattle.mos_typing.proofs.Cuts.{Goes, any, loose, joined, led, same, comma, syntax_goes, cut_sound, cut_none, cut_at}
use Rattle.mos_typing.proofs.Saying.{says_made, says_on_ok, Parts, says_both}

-- the words of an expression are plain
plain : (s : Syntax) (words : List Word) → words ≡ spell s → ArePlain words
plain s words e = subst ArePlain (sym e) (syntax_goes 0 s).all

range_is : (words : List Word) → is_range words ≡ true → words ≡ word_kind.Key token_kind.Range ∷ []
range_is (word_kind.Key token_kind.Range ∷ []) e = refl
range_is _ e = cc

-- ---- the word `range`

range_alone : (d : Dimension) (h : ℕ) (x : Dim) → word_kind.Key token_kind.Range ∷ [] ≡ dim_words x → d ≡ dimension_of x → h ≡ tallest_dim x → (d ≡ dimension.Range) × (h ≤ limit)
range_alone d h any_range e i k = (i, omega arith)
range_alone d h (any_set b) e i k = cc
range_alone d h (within s) e i k = let p : ArePlain (word_kind.Key token_kind.Range ∷ []) = plain s _ e in cc

pub says_range : (words : List Word) → is_range words ≡ true → Says (IsDimension words) (Ok dimension.Range)
says_range words e =
    let r : words ≡ word_kind.Key token_kind.Range ∷ [] = range_is words e in
    says_made (IsDimension words) dimension.Range 0 (record { written = any_range; grouped = tt; exact = r; is = refl; high_is = refl }) (omega arith)
    (λ d h k. range_alone d h k.written (sym r ∙ k.exact) k.is k.high_is)

-- ---- a set of some type

set_back : (b : Word) (d : Dimension) (h : ℕ) (x : Dim) → set_of b ≡ dim_words x → d ≡ dimension_of x → h ≡ tallest_dim x → (s : BaseType) × IsBase b s h × (d ≡ dimension.Set s)
set_back b d h any_range e i k = cc
set_back b d h (any_set s) e i k = let p : b ≡ base_word s = cc in (s, record { is = ap base_of p ∙ base_read s; high_is = k }, i)
set_back b d h (within s) e i k = let p : ArePlain (set_of b) = plain s _ e in cc

pub says_set : (words : List Word) (b : Word) (r : Result BaseType ExprFault) (s : Result Dimension ExprFault) → words ≡ set_of b → Gives r (or_nothing (base_of b)) → s ≡ on_ok dimension.Set r → Says (IsDimension words) s
says_set words b r s e g i =
    subst (Says (IsDimension words)) (sym i)
    (says_on_ok (IsBase b) (IsDimension words) dimension.Set r
    (λ c h k. record { written = any_set c; grouped = tt; exact = e ∙ ap set_of (base_known b c k.is); is = refl; high_is = k.high_is })
    (λ d h k. set_back b d h k.written (sym e ∙ k.exact) k.is k.high_is)
    (says_base b r g))

-- ---- an index set

over_back : (words : List Word) → is_range words ≡ false → ((b : Word) → words ≡ set_of b → ⊥) → (d : Dimension) (h : ℕ) (x : Dim) → DimIsGrouped x → words ≡ dim_words x → d ≡ dimension_of x → h ≡ tallest_dim x → (s : Expr) × IsExpression words s h × (d ≡ dimension.IndexSet s)
over_back words r n d h any_range g e i k = let p : is_range words ≡ true = ap is_range e in let o : false ≡ true = sym r ∙ p in cc
over_back words r n d h (any_set b) g e i k = absurd (n (base_word b) e)
over_back words r n d h (within s) g e i k = (tree s, record { written = s; grouped = g; exact = e; is = refl; high_is = k }, i)

pub says_over : (words : List Word) (r : Result Expr ExprFault) (s : Result Dimension ExprFault) → is_range words ≡ false → ((b : Word) → words ≡ set_of b → ⊥) → Says (IsExpression words) r → s ≡ on_ok dimension.IndexSet r → Says (IsDimension words) s
says_over words r s e n said i =
    subst (Says (IsDimension words)) (sym i)
    (says_on_ok (IsExpression words) (IsDimension words) dimension.IndexSet r
    (λ c h k. record { written = within k.written; grouped = k.grouped; exact = k.exact; is = ap dimension.IndexSet k.is; high_is = k.high_is })
    (λ d h k. over_back words e n d h k.written k.grouped k.exact k.is k.high_is)
    said)

-- ---- no index is cut

pub base_goes : (d : ℕ) (b : BaseType) → Goes any d (base_words b) d
base_goes d base.Integer = same d _ refl refl refl
base_goes d _ = same d _ refl refl refl

pub member_goes : (d : ℕ) (x : Word) (b : BaseType) → Goes any d (x ∷ []) d → Goes any d (x ∷ word_kind.Key token_kind.Of ∷ base_words b) d
member_goes d x b g = led d d d x _ g (led d d d (word_kind.Key token_kind.Of) (base_words b) (same d (word_kind.Key token_kind.Of) refl refl refl) (base_goes d b))

pub dim_goes : (d : ℕ) (x : Dim) → Goes any d (dim_words x) d
dim_goes d any_range = same d (word_kind.Key token_kind.Range) refl refl refl
dim_goes d (any_set b) = member_goes d (word_kind.Key token_kind.Set) b (same d (word_kind.Key token_kind.Set) refl refl refl)
dim_goes d (within s) = loose d d (spell s) (syntax_goes d s)

pub dims_go : (d : ℕ) (ds : Dims) → Goes any (d + 1) (dims_words ds) (d + 1)
dims_go d (last_dim x) = dim_goes (d + 1) x
dims_go d (and_dim x ds) = joined (d + 1) (d + 1) (d + 1) (dim_words x) _ (dim_goes (d + 1) x) (led (d + 1) (d + 1) (d + 1) (word_kind.Key token_kind.Comma) (dims_words ds) (comma d refl) (dims_go d ds))

-- ---- indexes with commas between them

last_back : (words : List Word) → halves_at marks.Comma 0 words ≡ None → (all : List Dimension) (h : ℕ) (ds : Dims) → DimsAreGrouped ds → words ≡ dims_words ds → all ≡ dimensions_of ds → h ≡ tallest_dims ds → (d : Dimension) × IsDimension words d h × (all ≡ alone d)
last_back words n all h (last_dim x) g e i k = (dimension_of x, record { written = x; grouped = g; exact = e; is = refl; high_is = k }, i)
last_back words n all h (and_dim x ds) g e i k = none_some (halves_at marks.Comma 0 words) (dim_words x, dims_words ds) n (ap (halves_at marks.Comma 0) e ∙ cut_at (dim_words x) (dims_words ds) (dim_goes 0 x))

pub says_last : (words : List Word) (r : Result Dimension ExprFault) → halves_at marks.Comma 0 words ≡ None → Says (IsDimension words) r → Says (AreDimensions words) (on_ok alone r)
says_last words r n k =
    says_on_ok (IsDimension words) (AreDimensions words) alone r
    (λ d h s. record { written = last_dim s.written; grouped = s.grouped; exact = s.exact; is = ap alone s.is; high_is = s.high_is })
    (λ all h s. last_back words n all h s.written s.grouped s.exact s.is s.high_is) k

abbrev TwoParts : List Word → List Word → List Dimension → ℕ → Type 0
TwoParts first rest = Parts (IsDimension first) (AreDimensions rest) first_of

more_back : (words first rest : List Word) → halves_at marks.Comma 0 words ≡ Some (first, rest) → (all : List Dimension) (h : ℕ) (ds : Dims) → DimsAreGrouped ds → words ≡ dims_words ds → all ≡ dimensions_of ds → h ≡ tallest_dims ds → TwoParts first rest all h
more_back words first rest c all h (last_dim x) g e i k = none_some (halves_at marks.Comma 0 words) (first, rest) (ap (halves_at marks.Comma 0) e ∙ cut_none (dim_words x) (dim_goes 0 x)) c
more_back words first rest c all h (and_dim x ds) g e i k =
    let l : List Word × List Word = (first, rest) in
    let o : l ≡ (dim_words x, dims_words ds) = some_same (halves_at marks.Comma 0 words) l (dim_words x, dims_words ds) c (ap (halves_at marks.Comma 0) e ∙ cut_at (dim_words x) (dims_words ds) (dim_goes 0 x)) in
    record {
      first = dimension_of x;
      first_high = tallest_dim x;
      rest = dimensions_of ds;
      rest_high = tallest_dims ds;
      first_is = record { written = x; grouped = g.0; exact = ap (λ (z : List Word × List Word). z.0) o; is = refl; high_is = refl };
      rest_is = record { written = ds; grouped = g.1; exact = ap (λ (z : List Word × List Word). z.1) o; is = refl; high_is = refl };
      is = i;
      high_is = k;
    }

pub says_more : (words first rest : List Word) (p : Result Dimension ExprFault) → halves_at marks.Comma 0 words ≡ Some (first, rest) → Says (IsDimension first) p → (r : Result (List Dimension) ExprFault) → Says (AreDimensions rest) r → Says (AreDimensions words) (both first_of p r)
says_more words first rest p c k r l =
    says_both (IsDimension first) (AreDimensions rest) (AreDimensions words) first_of
    (λ d h all m s more. record {
      written = and_dim s.written more.written;
      grouped = (s.grouped, more.grouped);
      exact = cut_sound marks.Comma 0 words first rest c ∙ ap (λ z. z ++ word_kind.Key token_kind.Comma ∷ rest) s.exact ∙ ap (λ z. dim_words s.written ++ word_kind.Key token_kind.Comma ∷ z) more.exact;
      is = ap (λ z. z ∷ all) s.is ∙ ap (λ z. dimension_of s.written ∷ z) more.is;
      high_is = ap (λ z. max z m) s.high_is ∙ ap (λ z. max (tallest_dim s.written) z) more.high_is;
    })
    (λ all h s. more_back words first rest c all h s.written s.grouped s.exact s.is s.high_is) p r k l

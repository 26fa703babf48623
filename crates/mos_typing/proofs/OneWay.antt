-- Words are one type, and one list of formals: each is read as the code reads it, from what it is.

use Rattle.std.proofs.Common.{◌≡◌, ℕ, ◌<◌, ◌≤◌, nat_le, true, false, List, [], ◌∷◌, Result, Ok, Err, refl, sym, ◌∙◌, ap, subst, arith}
use Rattle.std.proofs.lemmas.Bool.{leb-true, leb-false}
use Rattle.mos_tree.specs.declared.declaration.Dimension.TheVariants as dimension
use Rattle.mos_tree.specs.declared.declaration.TypeForm.TheVariants as typ
use Rattle.mos_scan.specs.declared.token.TokenKind.TheVariants as token_kind
use Rattle.mos_scan.specs.declared.grammar_word.Word.{Word}
use Rattle.mos_scan.specs.declared.grammar_word.Word.TheVariants as word_kind
use Rattle.mos_expr.specs.Grammar.{Syntax, IsGrouped, spell, tree, height, limit, spell_names, list_of_names}
use Rattle.mos_expr.specs.Laws.{HaveOneTree, answer_at}
use Rattle.mos_expr.specs.Said.{IsExpression, Says}
use Rattle.mos_expr.specs.declared.fault.ExprFault.{ExprFault}
use Rattle.mos_expr.specs.declared.fault.ExprFault.TheVariants as expr_fault
use Rattle.mos_typing.specs.Typing.{Dim, any_range, any_set, within, Dims, last_dim, and_dim, Typing, of_base, a_range, a_set, a_list, an_array, Groups, last_group, and_group, Formals, no_brackets, empty_brackets, formals, base_word, dim_words, dims_words, typing_words, group_words, formal_words, type_of, formals_of, tallest_type, tallest_formals, DimIsGrouped, DimsAreGrouped, TypeIsGrouped, GroupsAreGrouped, FormalsAreGrouped}
use Rattle.mos_typing.specs.PhraseWords.{ArePlain}
use Rattle.mos_typing.specs.Joining.{on_ok, both, alone, first_of}
use Rattle.mos_typing.specs.Reader.{group_of}
use Rattle.mos_typing.specs.Shapes.{is_range, set_of}
use Rattle.mos_typing.specs.Laws.{AreOneType, AreOneList}
use Rattle.mos_typing.specs.Parts.{IsDimension, AreDimensions, AreGroups, IsGroup}
use Rattle.mos_typing.specs.Spellings.{IsTypeForm, AreFormalGroups}
use Rattle.mos_typing.proofs.Bases.{base_read}
use Rattle.mos_typing.proofs.Cases.{on_bool}
use Rattle.mos_typing.proofs.Cuts.{syntax_goes, cut_none, cut_at, colon_at}
use Rattle.mos_typing.proofs.Dimensioned.{dim_goes, says_range, says_set, says_over, says_last, says_more}
use Rattle.mos_typing.proofs.Grouped as grouped
use Rattle.mos_typing.proofs.Listed.{names_read}
use Rattle.mos_typing.proofs.Saying.{says_made, says_high}
use Rattle.mos_typing.proofs.Typed.{NoArray, array_words, array_back, plain_read, plain_says, says_array}

-- what a call that finds its memory says
record Known {T : Type 0} (Is : T → ℕ → Type 0) : Type 0 where
  result : Result T ExprFault
  found : result ≡ Err expr_fault.NoMemory → ⊥
  says : Says Is result

-- a part made into a whole, and two parts
on_found : {A B : Type 0} (f : A → B) (r : Result A ExprFault) → (r ≡ Err expr_fault.NoMemory → ⊥) → on_ok f r ≡ Err expr_fault.NoMemory → ⊥
on_found f (Ok made) n e = cc
on_found f (Err fault) n e = let p : fault ≡ expr_fault.NoMemory = cc in n (ap (λ z. Err z) p)

both_found : {A B C : Type 0} (f : A → B → C) (r : Result A ExprFault) (q : Result B ExprFault) → (r ≡ Err expr_fault.NoMemory → ⊥) → (q ≡ Err expr_fault.NoMemory → ⊥) → both f r q ≡ Err expr_fault.NoMemory → ⊥
both_found f (Ok made) q n k e = on_found (f made) q k e
both_found f (Err expr_fault.Deep) (Ok more) n k e = cc
both_found f (Err expr_fault.Deep) (Err fault) n k e = let p : fault ≡ expr_fault.NoMemory = cc in k (ap (λ z. Err z) p)
both_found f (Err expr_fault.NoExpr) q n k e = cc
both_found f (Err expr_fault.NoMemory) q n k e = n refl

-- what is said of words is the answer for each thing that they spell
answer_is : {T : Type 0} (Is : T → ℕ → Type 0) (k : Known Is) (made : T) (high : ℕ) → Is made high → answer_at made high ≡ k.result
unfolding Says
answer_is {T = T} Is k made high i = at k.result k.found k.says
  where
    at : (r : Result T ExprFault) → (r ≡ Err expr_fault.NoMemory → ⊥) → Says Is r → answer_at made high ≡ r
    at (Ok it) n s = let o = s.only made high i in on_bool (nat_le high 500) (λ e. rw e (ap (λ z. Ok z) o.0)) (λ e. absurd (omega (arith, leb-false high 500 e, o.1)))
    at (Err expr_fault.Deep) n s = let o = s.only made high i in on_bool (nat_le high 500) (λ e. absurd (omega (arith, leb-true high 500 e, o))) (λ e. rw e refl)
    at (Err expr_fault.NoExpr) n s = absurd (s.none made high i)
    at (Err expr_fault.NoMemory) n s = absurd (n refl)

-- ---- expressions, by the law on their trees

low_of : {T : Type 0} (other made : T) (h : ℕ) → answer_at other h ≡ Ok made → (other ≡ made) × (h ≤ limit)
low_of other made h e = on_bool (nat_le h 500)
    (λ l. let p : Ok other ≡ Ok made = sym (rw l refl) ∙ e in (cc, omega (arith, leb-true h 500 l)))
    (λ l. let p : Err expr_fault.Deep ≡ Ok made = sym (rw l refl) ∙ e in absurd cc)

high_of : {T : Type 0} (other : T) (h : ℕ) → answer_at other h ≡ Err expr_fault.Deep → limit < h
high_of other h e = on_bool (nat_le h 500)
    (λ l. let p : Ok other ≡ Err expr_fault.Deep = sym (rw l refl) ∙ e in absurd cc)
    (λ l. omega (arith, leb-false h 500 l))

known_by : {T : Type 0} (Is : T → ℕ → Type 0) (made : T) (high : ℕ) → Is made high → ((other : T) (h : ℕ) → Is other h → answer_at other h ≡ answer_at made high) → Known Is
known_by Is made high i one = on_bool (nat_le high 500)
    (λ e. let low : answer_at made high ≡ Ok made = rw e refl in
    record { result = Ok made; found = λ n. cc; says = says_made Is made high i (omega (arith, leb-true high 500 e)) (λ other h k. low_of other made h (one other h k ∙ low)) })
    (λ e. let deep : answer_at made high ≡ Err expr_fault.Deep = rw e refl in
    record { result = Err expr_fault.Deep; found = λ n. cc; says = says_high Is made high i (omega (arith, leb-false high 500 e)) (λ other h k. high_of other h (one other h k ∙ deep)) })

known_tree : HaveOneTree → (s : Syntax) → IsGrouped s → Known (IsExpression (spell s))
known_tree law s g = known_by (IsExpression (spell s)) (tree s) (height s) (record { written = s; grouped = g; exact = refl; is = refl; high_is = refl })
    (λ other h k. ap (λ z. answer_at z h) k.is ∙ ap (answer_at (tree k.written)) k.high_is
    ∙ law (spell s) k.written s (record { grouped = k.grouped; exact = k.exact }) (record { grouped = g; exact = refl }))

-- ---- indexes

no_range : (s : Syntax) → is_range (spell s) ≡ false
no_range s = on_bool (is_range (spell s)) (λ e. absurd (at (spell s) e (syntax_goes 0 s).all)) (λ e. e)
  where
    at : (words : List Word) → is_range words ≡ true → ArePlain words → ⊥
    at (word_kind.Key token_kind.Range ∷ []) e k = cc
    at _ e k = cc

known_dim : HaveOneTree → (d : Dim) → DimIsGrouped d → Known (IsDimension (dim_words d))
known_dim law any_range g = record { result = Ok dimension.Range; found = λ n. cc; says = says_range (word_kind.Key token_kind.Range ∷ []) refl }
known_dim law (any_set b) g =
    record { result = Ok (dimension.Set b); found = λ n. cc; says = says_set (dim_words (any_set b)) (base_word b) (Ok b) (Ok (dimension.Set b)) refl (rw (base_read b) refl) refl }
known_dim law (within s) g =
    let k = known_tree law s g in record {
      result = on_ok dimension.IndexSet k.result;
      found = on_found dimension.IndexSet k.result k.found;
      says = says_over (spell s) k.result (on_ok dimension.IndexSet k.result) (no_range s) (λ b e. let p : ArePlain (set_of b) = subst ArePlain e (syntax_goes 0 s).all in absurd cc) k.says refl;
    }

known_dims : HaveOneTree → (ds : Dims) → DimsAreGrouped ds → Known (AreDimensions (dims_words ds))
known_dims law (last_dim d) g =
    let k = known_dim law d g in
    record { result = on_ok alone k.result; found = on_found alone k.result k.found; says = says_last (dim_words d) k.result (cut_none (dim_words d) (dim_goes 0 d)) k.says }
known_dims law (and_dim d ds) g =
    let k = known_dim law d g.0 in
    let l = known_dims law ds g.1 in record {
      result = both first_of k.result l.result;
      found = both_found first_of k.result l.result k.found l.found;
      says = says_more (dims_words (and_dim d ds)) (dim_words d) (dims_words ds) k.result (cut_at (dim_words d) (dims_words ds) (dim_goes 0 d)) k.says l.result l.says;
    }

-- ---- types

plain_known : (x : Typing) → NoArray (typing_words x) → Known (IsTypeForm (typing_words x))
plain_known x n = record { result = Ok (type_of x); found = λ e. cc; says = plain_says (typing_words x) (Ok (type_of x)) n (plain_read (typing_words x) n x refl).value }

known_type : HaveOneTree → (x : Typing) → TypeIsGrouped x → Known (IsTypeForm (typing_words x))
known_type law (an_array dynamic ds b) g =
    let k = known_dims law ds g in
    let r = on_ok (λ z. typ.Array dynamic z b) k.result in record {
      result = r;
      found = on_found (λ z. typ.Array dynamic z b) k.result k.found;
      says = subst (λ z. Says (IsTypeForm z) r) (sym (array_words dynamic ds b)) (says_array dynamic (dims_words ds) (base_word b) b k.result r (sym (base_read b)) k.says refl);
    }
known_type law (of_base b) g = plain_known (of_base b) (λ dynamic ds c e. let k = (array_back dynamic ds c (of_base b) (sym e)).is in cc)
known_type law a_range g = plain_known a_range (λ dynamic ds c e. let k = (array_back dynamic ds c a_range (sym e)).is in cc)
known_type law (a_set b) g = plain_known (a_set b) (λ dynamic ds c e. let k = (array_back dynamic ds c (a_set b) (sym e)).is in cc)
known_type law (a_list b) g = plain_known (a_list b) (λ dynamic ds c e. let k = (array_back dynamic ds c (a_list b) (sym e)).is in cc)

pub one_type : HaveOneTree → AreOneType
one_type law words x y k l =
    let known = known_type law x k.grouped in
    answer_is (IsTypeForm (typing_words x)) known (type_of x) (tallest_type x) (record { written = x; grouped = k.grouped; exact = refl; is = refl; high_is = refl })
    ∙ sym (answer_is (IsTypeForm (typing_words x)) known (type_of y) (tallest_type y) (record { written = y; grouped = l.grouped; exact = sym k.exact ∙ l.exact; is = refl; high_is = refl }))

-- ---- formals

known_group : HaveOneTree → (ns : _) (x : Typing) → TypeIsGrouped x → Known (IsGroup (spell_names ns) (typing_words x))
known_group law ns x g =
    let k = known_type law x g in
    let f = group_of (list_of_names ns) in
    record { result = on_ok f k.result; found = on_found f k.result k.found; says = grouped.says_group (spell_names ns) (typing_words x) (list_of_names ns) k.result (on_ok f k.result) (sym (names_read ns)) k.says refl }

known_groups : HaveOneTree → (gs : Groups) → GroupsAreGrouped gs → Known (AreGroups (group_words gs))
known_groups law (last_group ns x) g =
    let k = known_group law ns x g in
    let words = group_words (last_group ns x) in record {
      result = on_ok alone k.result;
      found = on_found alone k.result k.found;
      says = grouped.says_last words k.result (grouped.one_first ns x) (grouped.says_only words (spell_names ns) (typing_words x) k.result (colon_at ns (typing_words x)) k.says);
    }
known_groups law (and_group ns x gs) g =
    let k = known_group law ns x g.0 in
    let l = known_groups law gs g.1 in record {
      result = both first_of k.result l.result;
      found = both_found first_of k.result l.result k.found l.found;
      says = grouped.says_more (group_words (and_group ns x gs)) (spell_names ns) (typing_words x) (group_words gs) k.result (grouped.more_first ns x gs) k.says l.result l.says;
    }

known_formals : HaveOneTree → (xs : Formals) → FormalsAreGrouped xs → Known (AreFormalGroups (formal_words xs))
known_formals law no_brackets g = record { result = Ok []; found = λ n. cc; says = grouped.none_read [] refl }
known_formals law empty_brackets g = record { result = Ok []; found = λ n. cc; says = grouped.empty_read [] refl }
known_formals law (formals gs) g =
    let k = known_groups law gs g in
    record { result = k.result; found = k.found; says = grouped.says_inside (group_words gs) k.result (λ e. grouped.no_groups gs (sym e)) k.says }

pub one_list : HaveOneTree → AreOneList
one_list law words xs ys k l =
    let known = known_formals law xs k.grouped in
    answer_is (AreFormalGroups (formal_words xs)) known (formals_of xs) (tallest_formals xs) (record { written = xs; grouped = k.grouped; exact = refl; is = refl; high_is = refl })
    ∙ sym (answer_is (AreFormalGroups (formal_words xs)) known (formals_of ys) (tallest_formals ys) (record { written = ys; grouped = l.grouped; exact = sym k.exact ∙ l.exact; is = refl; high_is = refl }))

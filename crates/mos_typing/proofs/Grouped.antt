-- What is said of formals, group by group.

use Rattle.std.proofs.Common.{◌≡◌, ℕ, ◌≤◌, max, Bool, true, false, nat_eq, length, List, [], ◌∷◌, ◌++◌, Some, None, Result, Ok, Err, refl, sym, ◌∙◌, ap, subst, arith}
use Rattle.std.proofs.lemmas.Bool.{eqb-true}
use Rattle.std.proofs.lemmas.List.{nil_from_length}
use Rattle.mos_tree.specs.declared.declaration.TypeForm.{TypeForm}
use Rattle.mos_tree.specs.declared.declaration.FormalGroup.{FormalGroup}
use Rattle.mos_scan.specs.declared.token.TokenKind.TheVariants as token_kind
use Rattle.mos_scan.specs.declared.grammar_word.Word.{Word}
use Rattle.mos_scan.specs.declared.grammar_word.Word.TheVariants as word_kind
use Rattle.mos_expr.specs.Grammar.{Names, one_name, and_name, spell_names, list_of_names, limit}
use Rattle.mos_expr.specs.declared.fault.ExprFault.{ExprFault}
use Rattle.mos_expr.specs.declared.fault.ExprFault.TheVariants as expr_fault
use Rattle.mos_typing.specs.Typing.{Typing, of_base, a_range, a_set, a_list, an_array, Groups, last_group, and_group, Formals, no_brackets, empty_brackets, formals, in_brackets, dynamic_words, base_words, dims_words, typing_words, group_words, formal_words, type_of, groups_of, formals_of, tallest_type, tallest_groups, tallest_formals, GroupsAreGrouped, FormalsAreGrouped}
use Rattle.mos_typing.specs.declared.cut.Mark.TheVariants as marks
use Rattle.mos_typing.specs.Cutting.{Halves, Group, halves_at, first_group, typed_cut, group_cut}
use Rattle.mos_typing.specs.Joining.{on_ok, both, alone, first_of}
use Rattle.mos_typing.specs.Reader.{names_of, group_of}
use Rattle.mos_expr.specs.Said.{Says}
use Rattle.mos_typing.specs.Parts.{AreGroups, IsGroup, IsOnlyGroup}
use Rattle.mos_typing.specs.Spellings.{IsTypeForm, AreFormalGroups}
use Rattle.mos_typing.proofs.Cases.{none_some, some_same}
use Rattle.mos_typing.proofs.Cuts.{Goes, any, nothing, joined, led, same, open_round, close, closed, cut_sound, cut_none, cut_at, colon_at}
use Rattle.mos_typing.proofs.Dimensioned.{base_goes, member_goes, dims_go}
use Rattle.mos_typing.proofs.Ended.{SameEnd, one_end}
use Rattle.mos_typing.proofs.Listed.{AreNames, names_known, names_read}
use Rattle.mos_typing.proofs.Saying.{says_nothing, says_made, says_on_ok, says_same, Parts, says_both}

-- ---- no type is cut

dynamic_goes : (d : ℕ) (dynamic : _) → Goes any d (dynamic_words dynamic) d
dynamic_goes d true = same d (word_kind.Key token_kind.Dynamic) refl refl refl
dynamic_goes d false = nothing d

typing_goes : (d : ℕ) (x : Typing) → Goes any d (typing_words x) d
typing_goes d (of_base b) = base_goes d b
typing_goes d a_range = same d (word_kind.Key token_kind.Range) refl refl refl
typing_goes d (a_set b) = member_goes d (word_kind.Key token_kind.Set) b (same d (word_kind.Key token_kind.Set) refl refl refl)
typing_goes d (a_list b) = member_goes d (word_kind.Key token_kind.List) b (same d (word_kind.Key token_kind.List) refl refl refl)
typing_goes d (an_array dynamic ds b) =
    joined d d d (dynamic_words dynamic) _ (dynamic_goes d dynamic)
    (led d d d (word_kind.Key token_kind.Array) _ (same d (word_kind.Key token_kind.Array) refl refl refl)
    (joined d d d (in_brackets (dims_words ds)) (word_kind.Key token_kind.Of ∷ base_words b)
    (closed d (word_kind.Key token_kind.OpenRound) (dims_words ds) (word_kind.Key token_kind.CloseRound ∷ []) (open_round d refl) (dims_go d ds) (close d (word_kind.Key token_kind.CloseRound) refl refl refl))
    (led d d d (word_kind.Key token_kind.Of) (base_words b) (same d (word_kind.Key token_kind.Of) refl refl refl) (base_goes d b))))

-- ---- one group

pub says_no_names : (names typ : List Word) → None ≡ names_of names → Says (IsGroup names typ) (Err expr_fault.NoExpr)
says_no_names names typ e =
    says_nothing (IsGroup names typ) (λ made h k. none_some (names_of names) (list_of_names k.listed) (sym e) (ap names_of k.names_exact ∙ names_read k.listed))

pub says_group : (names typ : List Word) (all : List (List ℕ)) (r : Result TypeForm ExprFault) (s : Result FormalGroup ExprFault) → Some all ≡ names_of names → Says (IsTypeForm typ) r → s ≡ on_ok (group_of all) r → Says (IsGroup names typ) s
says_group names typ all r s e k i =
    let n : AreNames names all = names_known names all (sym e) in
    subst (Says (IsGroup names typ)) (sym i)
    (says_on_ok (IsTypeForm typ) (IsGroup names typ) (group_of all) r
    (λ made h q. record {
      listed = n.written;
      typing = q.written;
      grouped = q.grouped;
      names_exact = n.exact;
      exact = q.exact;
      is = ap (λ z. group_of z made) n.is ∙ ap (group_of (list_of_names n.written)) q.is;
      high_is = q.high_is;
    })
    (λ made h q.
    let o : list_of_names q.listed ≡ all = some_same (names_of names) (list_of_names q.listed) all (ap names_of q.names_exact ∙ names_read q.listed) (sym e) in
    (type_of q.typing, record { written = q.typing; grouped = q.grouped; exact = q.exact; is = refl; high_is = q.high_is }, q.is ∙ ap (λ z. group_of z (type_of q.typing)) o)) k)

-- ---- where groups are cut

abbrev one_words : Names → Typing → List Word
one_words ns x = spell_names ns ++ word_kind.Key token_kind.Colon ∷ typing_words x

abbrev more_words : Names → Typing → Groups → List Word
more_words ns x gs = spell_names ns ++ word_kind.Key token_kind.Colon ∷ (typing_words x ++ word_kind.Key token_kind.Comma ∷ group_words gs)

pub one_first : (ns : Names) (x : Typing) → first_group (one_words ns x) ≡ None
one_first ns x = ap typed_cut (colon_at ns (typing_words x)) ∙ ap (group_cut (spell_names ns)) (cut_none (typing_words x) (typing_goes 0 x))

abbrev cut_of : Names → Typing → Groups → Group
cut_of ns x gs = (spell_names ns, typing_words x, group_words gs)

pub more_first : (ns : Names) (x : Typing) (gs : Groups) → first_group (more_words ns x gs) ≡ Some (cut_of ns x gs)
more_first ns x gs =
    ap typed_cut (colon_at ns (typing_words x ++ word_kind.Key token_kind.Comma ∷ group_words gs))
    ∙ ap (group_cut (spell_names ns)) (cut_at (typing_words x) (group_words gs) (typing_goes 0 x))

groups_colon : (gs : Groups) (words : List Word) → words ≡ group_words gs → halves_at marks.Colon 0 words ≡ None → ⊥
groups_colon (last_group ns x) words e n = none_some (halves_at marks.Colon 0 words) (spell_names ns, typing_words x) n (ap (halves_at marks.Colon 0) e ∙ colon_at ns (typing_words x))
groups_colon (and_group ns x gs) words e n =
    none_some (halves_at marks.Colon 0 words) (spell_names ns, typing_words x ++ word_kind.Key token_kind.Comma ∷ group_words gs) n (ap (halves_at marks.Colon 0) e ∙ colon_at ns (typing_words x ++ word_kind.Key token_kind.Comma ∷ group_words gs))

-- ---- the last group

pub says_no_colon : (words : List Word) → halves_at marks.Colon 0 words ≡ None → Says (IsOnlyGroup words) (Err expr_fault.NoExpr)
says_no_colon words n = says_nothing (IsOnlyGroup words) (λ made h k. groups_colon k.written words k.exact n)

some_groups : {P : Type 0} (gs : Groups) → [] ≡ groups_of gs → P
some_groups (last_group ns x) e = cc
some_groups (and_group ns x gs) e = cc

only_back : (words names typ : List Word) → halves_at marks.Colon 0 words ≡ Some (names, typ) → (made : FormalGroup) (h : ℕ) (gs : Groups) → GroupsAreGrouped gs → words ≡ group_words gs → alone made ≡ groups_of gs → h ≡ tallest_groups gs → IsGroup names typ made h
only_back words names typ c made h (last_group ns x) g e i k =
    let l : List Word × List Word = (names, typ) in
    let o : l ≡ (spell_names ns, typing_words x) = some_same (halves_at marks.Colon 0 words) l (spell_names ns, typing_words x) c (ap (halves_at marks.Colon 0) e ∙ colon_at ns (typing_words x)) in
    record {
      listed = ns;
      typing = x;
      grouped = g;
      names_exact = ap (λ (z : List Word × List Word). z.0) o;
      exact = ap (λ (z : List Word × List Word). z.1) o;
      is = cc;
      high_is = k;
    }
only_back words names typ c made h (and_group ns x gs) g e i k = let p : [] ≡ groups_of gs = cc in some_groups gs p

pub says_only : (words names typ : List Word) (r : Result FormalGroup ExprFault) → halves_at marks.Colon 0 words ≡ Some (names, typ) → Says (IsGroup names typ) r → Says (IsOnlyGroup words) r
says_only words names typ r c k =
    says_same (IsGroup names typ) (IsOnlyGroup words) r
    (λ made h q. record {
      written = last_group q.listed q.typing;
      grouped = q.grouped;
      exact = cut_sound marks.Colon 0 words names typ c ∙ ap (λ z. z ++ word_kind.Key token_kind.Colon ∷ typ) q.names_exact ∙ ap (λ z. spell_names q.listed ++ word_kind.Key token_kind.Colon ∷ z) q.exact;
      is = ap alone q.is;
      high_is = q.high_is;
    })
    (λ made h q. only_back words names typ c made h q.written q.grouped q.exact q.is q.high_is) k

last_back : (words : List Word) → first_group words ≡ None → (all : List FormalGroup) (h : ℕ) (gs : Groups) → GroupsAreGrouped gs → words ≡ group_words gs → all ≡ groups_of gs → h ≡ tallest_groups gs → (made : FormalGroup) × IsOnlyGroup words made h × (all ≡ alone made)
last_back words n all h (last_group ns x) g e i k =
    let made : FormalGroup = group_of (list_of_names ns) (type_of x) in
    (made, record { written = last_group ns x; grouped = g; exact = e; is = refl; high_is = k }, i)
last_back words n all h (and_group ns x gs) g e i k = none_some (first_group words) (cut_of ns x gs) n (ap first_group e ∙ more_first ns x gs)

pub says_last : (words : List Word) (r : Result FormalGroup ExprFault) → first_group words ≡ None → Says (IsOnlyGroup words) r → Says (AreGroups words) (on_ok alone r)
says_last words r n k =
    says_on_ok (IsOnlyGroup words) (AreGroups words) alone r (λ made h q. q)
    (λ all h q. last_back words n all h q.written q.grouped q.exact q.is q.high_is) k

-- ---- one group more

typed_is : (names rest : List Word) (q : Halves) (ns typ after : List Word) → ((a b : List Word) → q ≡ Some (a, b) → rest ≡ a ++ word_kind.Key token_kind.Comma ∷ b) → group_cut names q ≡ Some (ns, typ, after) → names ++ word_kind.Key token_kind.Colon ∷ rest ≡ ns ++ word_kind.Key token_kind.Colon ∷ (typ ++ word_kind.Key token_kind.Comma ∷ after)
typed_is names rest None ns typ after known e = none_some {A = Group} None (ns, typ, after) refl e
typed_is names rest (Some (a, b)) ns typ after known e =
    let l : Group = (names, a, b) in
    let o : l ≡ (ns, typ, after) = some_same {A = Group} (Some l) l (ns, typ, after) refl e in
    ap (λ z. names ++ word_kind.Key token_kind.Colon ∷ z) (known a b refl) ∙ ap (λ (z : Group). z.0 ++ word_kind.Key token_kind.Colon ∷ (z.1 ++ word_kind.Key token_kind.Comma ∷ z.2)) o

first_is : (words : List Word) (q : Halves) (names typ after : List Word) → ((a b : List Word) → q ≡ Some (a, b) → words ≡ a ++ word_kind.Key token_kind.Colon ∷ b) → typed_cut q ≡ Some (names, typ, after) → words ≡ names ++ word_kind.Key token_kind.Colon ∷ (typ ++ word_kind.Key token_kind.Comma ∷ after)
first_is words None names typ after known e = none_some {A = Group} None (names, typ, after) refl e
first_is words (Some (a, b)) names typ after known e = known a b refl ∙ typed_is a b (halves_at marks.Comma 0 b) names typ after (cut_sound marks.Comma 0 b) e

more_back : (words names typ after : List Word) → first_group words ≡ Some (names, typ, after) → (all : List FormalGroup) (h : ℕ) (gs : Groups) → GroupsAreGrouped gs → words ≡ group_words gs → all ≡ groups_of gs → h ≡ tallest_groups gs → Parts (IsGroup names typ) (AreGroups after) first_of all h
more_back words names typ after c all h (last_group ns x) g e i k = none_some (first_group words) (names, typ, after) (ap first_group e ∙ one_first ns x) c
more_back words names typ after c all h (and_group ns x gs) g e i k =
    let l : Group = (names, typ, after) in
    let o : l ≡ cut_of ns x gs = some_same (first_group words) l (cut_of ns x gs) c (ap first_group e ∙ more_first ns x gs) in
    record {
      first = group_of (list_of_names ns) (type_of x);
      first_high = tallest_type x;
      rest = groups_of gs;
      rest_high = tallest_groups gs;
      first_is = record {
        listed = ns;
        typing = x;
        grouped = g.0;
        names_exact = ap (λ (z : Group). z.0) o;
        exact = ap (λ (z : Group). z.1) o;
        is = refl;
        high_is = refl;
      };
      rest_is = record { written = gs; grouped = g.1; exact = ap (λ (z : Group). z.2) o; is = refl; high_is = refl };
      is = i;
      high_is = k;
    }

pub says_more : (words names typ after : List Word) (p : Result FormalGroup ExprFault) → first_group words ≡ Some (names, typ, after) → Says (IsGroup names typ) p → (r : Result (List FormalGroup) ExprFault) → Says (AreGroups after) r → Says (AreGroups words) (both first_of p r)
says_more words names typ after p c k r l =
    says_both (IsGroup names typ) (AreGroups after) (AreGroups words) first_of
    (λ made h all m q more. record {
      written = and_group q.listed q.typing more.written;
      grouped = (q.grouped, more.grouped);
      exact =
          first_is words (halves_at marks.Colon 0 words) names typ after (cut_sound marks.Colon 0 words) c
          ∙ ap (λ z. z ++ word_kind.Key token_kind.Colon ∷ (typ ++ word_kind.Key token_kind.Comma ∷ after)) q.names_exact
          ∙ ap (λ z. spell_names q.listed ++ word_kind.Key token_kind.Colon ∷ (z ++ word_kind.Key token_kind.Comma ∷ after)) q.exact
          ∙ ap (λ z. spell_names q.listed ++ word_kind.Key token_kind.Colon ∷ (typing_words q.typing ++ word_kind.Key token_kind.Comma ∷ z)) more.exact;
      is = ap (λ z. z ∷ all) q.is ∙ ap (λ z. group_of (list_of_names q.listed) (type_of q.typing) ∷ z) more.is;
      high_is = ap (λ z. max z m) q.high_is ∙ ap (λ z. max (tallest_type q.typing) z) more.high_is;
    })
    (λ all h q. more_back words names typ after c all h q.written q.grouped q.exact q.is q.high_is) p r k l

-- ---- brackets

pub no_groups : {P : Type 0} (gs : Groups) → [] ≡ group_words gs → P
no_groups (last_group (one_name n) x) e = cc
no_groups (last_group (and_name n ns) x) e = cc
no_groups (and_group (one_name n) x gs) e = cc
no_groups (and_group (and_name n ns) x gs) e = cc

same_inside : (xs ys : List Word) → in_brackets xs ≡ in_brackets ys → xs ≡ ys
same_inside xs ys e =
    let p : xs ++ word_kind.Key token_kind.CloseRound ∷ [] ≡ ys ++ word_kind.Key token_kind.CloseRound ∷ [] = cc in
    let k : SameEnd xs ys (word_kind.Key token_kind.CloseRound) (word_kind.Key token_kind.CloseRound) = one_end xs ys (word_kind.Key token_kind.CloseRound) (word_kind.Key token_kind.CloseRound) p in
    k.fronts

-- the test for no words
pub no_words : (words : List Word) (b : Bool) → b ≡ nat_eq (length words) 0 → b ≡ true → words ≡ []
no_words words b e h = nil_from_length words (eqb-true (length words) 0 (sym e ∙ h))

pub some_words : (words : List Word) (b : Bool) → b ≡ nat_eq (length words) 0 → b ≡ false → words ≡ [] → ⊥
some_words words b e h k = let p : false ≡ true = sym h ∙ e ∙ ap (λ (z : List Word). nat_eq (length z) 0) k in cc

no_words_back : (all : List FormalGroup) (h : ℕ) (xs : Formals) → [] ≡ formal_words xs → all ≡ formals_of xs → h ≡ tallest_formals xs → (all ≡ []) × (h ≤ limit)
no_words_back all h no_brackets e i k = (i, omega arith)
no_words_back all h empty_brackets e i k = cc
no_words_back all h (formals gs) e i k = cc

pub none_read : (words : List Word) → words ≡ [] → Says (AreFormalGroups words) (Ok [])
none_read words e =
    says_made (AreFormalGroups words) [] 0 (record { written = no_brackets; grouped = tt; exact = e; is = refl; high_is = refl }) (omega arith)
    (λ all h k. no_words_back all h k.written (sym e ∙ k.exact) k.is k.high_is)

pub says_no_words : (words : List Word) (made : List FormalGroup) → made ≡ [] → words ≡ [] → Says (AreFormalGroups words) (Ok made)
says_no_words words made m e = subst (λ z. Says (AreFormalGroups words) (Ok z)) (sym m) (none_read words e)

empty_back : (all : List FormalGroup) (h : ℕ) (xs : Formals) → in_brackets [] ≡ formal_words xs → all ≡ formals_of xs → h ≡ tallest_formals xs → (all ≡ []) × (h ≤ limit)
empty_back all h no_brackets e i k = cc
empty_back all h empty_brackets e i k = (i, omega arith)
empty_back all h (formals gs) e i k = no_groups gs (same_inside [] (group_words gs) e)

pub empty_read : (inside : List Word) → inside ≡ [] → Says (AreFormalGroups (in_brackets inside)) (Ok [])
empty_read inside e =
    says_made (AreFormalGroups (in_brackets inside)) [] 0 (record { written = empty_brackets; grouped = tt; exact = ap in_brackets e; is = refl; high_is = refl }) (omega arith)
    (λ all h k. empty_back all h k.written (ap in_brackets (sym e) ∙ k.exact) k.is k.high_is)

pub says_empty : (inside : List Word) (made : List FormalGroup) → made ≡ [] → inside ≡ [] → Says (AreFormalGroups (in_brackets inside)) (Ok made)
says_empty inside made m e = subst (λ z. Says (AreFormalGroups (in_brackets inside)) (Ok z)) (sym m) (empty_read inside e)

inside_back : (inside : List Word) → (inside ≡ [] → ⊥) → (all : List FormalGroup) (h : ℕ) (xs : Formals) → FormalsAreGrouped xs → in_brackets inside ≡ formal_words xs → all ≡ formals_of xs → h ≡ tallest_formals xs → AreGroups inside all h
inside_back inside n all h no_brackets g e i k = cc
inside_back inside n all h empty_brackets g e i k = absurd (n (same_inside inside [] e))
inside_back inside n all h (formals gs) g e i k = record { written = gs; grouped = g; exact = same_inside inside (group_words gs) e; is = i; high_is = k }

pub says_inside : (inside : List Word) (r : Result (List FormalGroup) ExprFault) → (inside ≡ [] → ⊥) → Says (AreGroups inside) r → Says (AreFormalGroups (in_brackets inside)) r
says_inside inside r n k =
    says_same (AreGroups inside) (AreFormalGroups (in_brackets inside)) r
    (λ all h q. record { written = formals q.written; grouped = q.grouped; exact = ap in_brackets q.exact; is = q.is; high_is = q.high_is })
    (λ all h q. inside_back inside n all h q.written q.grouped q.exact q.is q.high_is) k

no_formals : (words : List Word) → (words ≡ [] → ⊥) → ((inside : List Word) → words ≡ in_brackets inside → ⊥) → (xs : Formals) → words ≡ formal_words xs → ⊥
no_formals words n m no_brackets e = n e
no_formals words n m empty_brackets e = m [] e
no_formals words n m (formals gs) e = m (group_words gs) e

pub says_no_formals : (words : List Word) → (words ≡ [] → ⊥) → ((inside : List Word) → words ≡ in_brackets inside → ⊥) → Says (AreFormalGroups words) (Err expr_fault.NoExpr)
says_no_formals words n m = says_nothing (AreFormalGroups words) (λ all h k. no_formals words n m k.written k.exact)

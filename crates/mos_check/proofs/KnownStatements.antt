-- Statements of forms that can be run, whose names are known, are those that the compiler wants.

use Rattle.std.proofs.Common.{◌≡◌, ℕ, Bool, true, false, List, [], ◌∷◌, Option, Some, None, refl, sym, ap, ◌∙◌, subst, map, codes, ◌⊎◌, inl, inr}
use Rattle.std.specs.Prelude.{◌&&◌, ◌||◌, if◌then◌else◌, option_map}
use Rattle.std.specs.Str.{bytes_eq}
use Rattle.std.proofs.lemmas.Slice.Eq.{bytes_eq-Decides}
use Rattle.mos_text.specs.declared.kind.Kind.{Kind}
use Rattle.mos_tree.specs.declared.expr.Expr.{Expr}
use Rattle.mos_tree.specs.declared.statement.Assignment.{Assignment}
use Rattle.mos_tree.specs.declared.statement.Assignment.TheVariants as assignment_kind
use Rattle.mos_tree.specs.declared.statement.Reference.{Reference}
use Rattle.mos_tree.specs.declared.statement.Reference.TheVariants as target
use Rattle.mos_tree.specs.declared.statement.Arm.{Arm}
use Rattle.mos_tree.specs.declared.statement.Statement.{Statement}
use Rattle.mos_tree.specs.declared.statement.Statement.TheOpen.{Statement-F, Assign, Fill, Call, If, Case, Forall, While, Repeat, Do, Break, Next, Initializations}
use Rattle.mos_tree.specs.declared.statement.Statement.TheFolds.{map-Statement, fold-roll-Statement, ind-Statement}
use Rattle.mos_tree.specs.declared.statement.Statement.TheViews.{roll-Statement}
use Rattle.mos_tree.specs.declared.source.Top.{Top}
use Rattle.mos_tree.specs.declared.source.Top.TheVariants as top
use Rattle.mos_tree.specs.declared.source.Head.{Head}
use Rattle.mos_tree.specs.declared.source.Tree.{Tree}
use Rattle.mos_names.specs.NameLists.{with_name, has_name}
use Rattle.mos_value.specs.Answers.{Operator, sum, difference}
use Rattle.mos_meaning.specs.Syntax.{Model, Shown, CoreStatement, assign, change, write, break_, next_, unbuilt_statement, Arms, Block, no_statement}
use Rattle.mos_meaning.specs.Sources.{expression, shown_of, procedure, assignment, block, core_arms, core_step, core_of, in_arm, core_of_top, statements_of, names_after, names_in_arms, names_from, variables_of}
use Rattle.mos_check.specs.Forms.{form_of, is_sum, is_condition}
use Rattle.mos_check.specs.NotBuilt.{unless, or_later, first_of, is_variable, is_write, shows_one, unbuilt_arm, unbuilt_step, unbuilt_in, unbuilt_in_top, at_syntax, unbuilt_head, unbuilt_behind, unbuilt_of}
use Rattle.mos_check.specs.Names.{Names, Found, Wrong, Knows, and_then, or_other, unless_known, unknown_in, unknown_in_all, unknown_target, with_target, uses, Checks, check_all, check_arms, in_loop, check_step, check_statement, check_tops, check_of}
use Rattle.mos_meaning.specs.Working.{IsSum, IsCondition, AreShown, Works, ArmsWork, AllWork}
use Rattle.mos_check.proofs.KnownNames.{Within, with_name-keeps, with_name-has, none-both, known-is}
use Rattle.mos_check.proofs.KnownExpressions.{sum-numeric, condition-is, shown-is}

-- taking found things apart

both-true : (a b : Bool) → (a && b) ≡ true → (a ≡ true) × (b ≡ true)
both-true true b h = (refl, h)
both-true false b h = cc

unless-true : (b : Bool) (line : ℕ) → unless b line ≡ None → b ≡ true
unless-true true line h = refl
unless-true false line h = cc

later-none : (a b : Option ℕ) → or_later a b ≡ None → (a ≡ None) × (b ≡ None)
later-none None b h = (refl, h)
later-none (Some line) b h = cc

then-knows : (f : Found) (go : Names → Found) (after : Names) → and_then f go ≡ Knows after → (k : Names) × (f ≡ Knows k) × (go k ≡ Knows after)
then-knows (Wrong line kind) go after h = cc
then-knows (Knows names) go after h = (names, refl, h)

uses-none : (line : ℕ) (known k : Names) (unknown : Option (List ℕ)) → uses line known unknown ≡ Knows k → (unknown ≡ None) × (known ≡ k)
uses-none line known k None h = (refl, cc)
uses-none line known k (Some n) h = cc

-- the statement works with all names that are known behind it
record Fares (known after : Names) (e : CoreStatement) : Type 0 where
  named : after ≡ names_after known e
  grows : Within known after
  works : (names : Names) → Within after names → Works names e

record FaresAll (known after : Names) (all : Block) : Type 0 where
  named : after ≡ names_from known all
  grows : Within known after
  works : (names : Names) → Within after names → AllWork names all

record FareArms (known after : Names) (all : Arms) : Type 0 where
  named : after ≡ names_in_arms known all
  grows : Within known after
  works : (names : Names) → Within after names → ArmsWork names all

unmoved : (known after : Names) (e : CoreStatement) → known ≡ after → names_after known e ≡ known → ((names : Names) → Within known names → Works names e) → Fares known after e
unmoved known after e same named works = subst (λ (k : Names). Fares known k e) same (record { named = sym named; grows = λ n h. h; works = works })

-- `+=` and `-=`
changed : (line : ℕ) (how : Operator) (n : List ℕ) (value : Expr) (known after : Names) → unless (is_sum (form_of value)) line ≡ None
    → IsSum how
    → and_then (uses line known (or_other (unless_known known n) (unknown_in value known))) (λ k. Knows k) ≡ Knows after
    → Fares known after (change line how Model n (expression value))
changed line how n value known after built is_sum_operator checked =
    let is = unless-true (is_sum (form_of value)) line built in
    let found = then-knows (uses line known (or_other (unless_known known n) (unknown_in value known))) (λ k. Knows k) after checked in
    let used = uses-none line known found.0 (or_other (unless_known known n) (unknown_in value known)) found.1 in
    let both = none-both (unless_known known n) (unknown_in value known) used.0 in
    let same : found.0 ≡ after = (let e = found.2 in cc) in
    unmoved known after (change line how Model n (expression value)) (used.1 ∙ same) refl
    (λ names within. (is_sum_operator, within n (known-is known n both.0), sum-numeric value known names within is both.1))

-- assignments
assigned : (line : ℕ) (to : Reference) (o : Assignment) (value : Expr) (known after : Names) → unless (is_variable to && is_sum (form_of value)) line ≡ None
    → and_then (uses line known (or_other (unknown_target to o known) (unknown_in value known))) (λ k. Knows (with_target to o k)) ≡ Knows after
    → Fares known after (assignment line to o (expression value))
assigned line (target.Name n) assignment_kind.Set value known after built checked =
    let is = unless-true (is_sum (form_of value)) line built in
    let found = then-knows (uses line known (unknown_in value known)) (λ k. Knows (with_name k n)) after checked in
    let used = uses-none line known found.0 (unknown_in value known) found.1 in
    let there : with_name found.0 n ≡ after = (let e = found.2 in cc) in
    let same : with_name known n ≡ after = ap (λ (k : Names). with_name k n) used.1 ∙ there in
    subst (λ (k : Names). Fares known k (assign line Model n (expression value))) same (record {
      named = refl;
      grows = with_name-keeps known n;
      works = λ names within. (within n (with_name-has known n), sum-numeric value known names (λ m h. within m (with_name-keeps known n m h)) is used.0);
    })
assigned line (target.Name n) assignment_kind.Add value known after built checked = changed line sum n value known after built tt checked
assigned line (target.Name n) assignment_kind.Take value known after built checked = changed line difference n value known after built tt checked
assigned line _ o value known after built checked = absurd (no-reference built)
  where
    no-reference : unless false line ≡ None → ⊥
    no-reference e = cc

-- what is printed
bytes_eq-turned : (a b : List ℕ) → bytes_eq a b ≡ true → bytes_eq b a ≡ true
bytes_eq-turned a b h = (bytes_eq-Decides b a).1 (sym ((bytes_eq-Decides a b).0 h))

either : (a b : Bool) → (a || b) ≡ true → (a ≡ true) ⊎ (b ≡ true)
either true b h = inl refl
either false b h = inr h

-- `writeln` or `write`
abbrev Writes : List ℕ → Type 0
Writes called = (bytes_eq (codes "writeln") called ≡ true) ⊎ (bytes_eq (codes "write") called ≡ true)

writes : (called : List ℕ) → is_write called ≡ true → Writes called
writes called h = turned (either (bytes_eq called (codes "writeln")) (bytes_eq called (codes "write")) h)
  where
    turned : (bytes_eq called (codes "writeln") ≡ true) ⊎ (bytes_eq called (codes "write") ≡ true) → Writes called
    turned (inl e) = inl (bytes_eq-turned called (codes "writeln") e)
    turned (inr e) = inr (bytes_eq-turned called (codes "write") e)

-- what is said of `write` holds of both procedures
by-name : (P : CoreStatement → Type 0) (line : ℕ) (p q : Bool) (all : Shown) → (p ≡ true) ⊎ (q ≡ true) → ((newline : Bool) → P (write line newline all))
    → P (if p then write line true all else (if q then write line false all else unbuilt_statement))
by-name P line true q all h go = go true
by-name P line false true all h go = go false
by-name P line false false all (inl e) go = cc
by-name P line false false all (inr e) go = cc

-- what is printed is one sum or text
one-shown : (all : List Expr) (known names : Names) → Within known names → shows_one all ≡ true → unknown_in_all all known ≡ None
    → AreShown names (shown_of (map expression all))
one-shown [] known names within is none = cc
one-shown (e ∷ []) known names within is none =
    (shown-is e known names within is (none-both (unknown_in e known) None none).0, tt)
one-shown (e ∷ d ∷ es) known names within is none = cc

called-fares : (line : ℕ) (called : List ℕ) (all : List Expr) (known after : Names) → unless (is_write called && shows_one all) line ≡ None
    → uses line known (unknown_in_all all known) ≡ Knows after
    → Fares known after (procedure line called (shown_of (map expression all)))
called-fares line called all known after built checked =
    let is = both-true (is_write called) (shows_one all) (unless-true (is_write called && shows_one all) line built) in
    let which = writes called is.0 in
    let p = bytes_eq (codes "writeln") called in
    let q = bytes_eq (codes "write") called in
    let written = shown_of (map expression all) in
    let used = uses-none line known after (unknown_in_all all known) checked in
    by-name (Fares known after) line p q written which
    (λ newline. unmoved known after (write line newline written) used.1 refl (λ names within. one-shown all known names within is.1 used.0))

-- conditions
condition-fares : (line : ℕ) (condition : Expr) (known k : Names) → unless (is_condition (form_of condition)) line ≡ None
    → uses line known (unknown_in condition known) ≡ Knows k → (known ≡ k) × ((names : Names) → Within known names → IsCondition names (expression condition))
condition-fares line condition known k built checked =
    let used = uses-none line known k (unknown_in condition known) checked in
    (used.1, λ names within. condition-is condition known names within (unless-true (is_condition (form_of condition)) line built) used.0)

-- `break` and `next`
exit-fares : (inside : Bool) (line : ℕ) (known after : Names) (e : CoreStatement) → in_loop inside line known ≡ Knows after → names_after known e ≡ known → ((names : Names) → Works names e) → Fares known after e
exit-fares true line known after e h named works =
    let same : known ≡ after = cc in
    unmoved known after e same named (λ names within. works names)
exit-fares false line known after e h named works = cc

-- a statement by what is found of it
abbrev Known : Statement → Type 0
Known s = (inside : Bool) (known after : Names) → unbuilt_in s ≡ None → check_statement s inside known ≡ Knows after → Fares known after (core_of s)

abbrev Said : Type 0
Said = (s : Statement) × Known s

-- the statement itself
abbrev self : Said → Statement
self said = said.0

abbrev self_arm : Arm Said → Arm Statement
self_arm arm = record { line = arm.line; condition = arm.condition; body = map self arm.body }

block-fares : (all : List Said) (inside : Bool) (known after : Names) → first_of (map unbuilt_in (map self all)) ≡ None
    → check_all (map check_statement (map self all)) inside known ≡ Knows after → FaresAll known after (block (map core_of (map self all)))
block-fares [] inside known after built checked =
    let same : known ≡ after = cc in
    subst (λ (k : Names). FaresAll known k no_statement) same (record { named = refl; grows = λ n h. h; works = λ names within. tt })
block-fares (s ∷ all) inside known after built checked =
    let both = later-none (unbuilt_in s.0) (first_of (map unbuilt_in (map self all))) built in
    let found = then-knows (check_statement s.0 inside known) (check_all (map check_statement (map self all)) inside) after checked in
    let one = s.1 inside known found.0 both.0 found.1 in
    let rest = block-fares all inside found.0 after both.1 found.2 in
    record {
      named = rest.named ∙ ap (λ (k : Names). names_from k (block (map core_of (map self all)))) one.named;
      grows = λ n h. rest.grows n (one.grows n h);
      works = λ names within. (one.works names (λ n h. within n (rest.grows n h)), rest.works names within);
    }

arms-fare : (arms : List (Arm Said)) (last : List Said) (inside : Bool) (known middle after : Names)
    → first_of (map unbuilt_arm (map (in_arm unbuilt_in) (map self_arm arms))) ≡ None → first_of (map unbuilt_in (map self last)) ≡ None
    → check_arms (map (in_arm check_statement) (map self_arm arms)) inside known ≡ Knows middle → check_all (map check_statement (map self last)) inside middle ≡ Knows after
    → FareArms known after (core_arms (map (in_arm core_of) (map self_arm arms)) (map core_of (map self last)))
arms-fare [] last inside known middle after built built_last checked checked_last =
    let same : middle ≡ known = cc in
    let fares = block-fares last inside known after built_last (ap (check_all (map check_statement (map self last)) inside) (sym same) ∙ checked_last) in
    record { named = fares.named; grows = fares.grows; works = fares.works }
arms-fare (arm ∷ arms) last inside known middle after built built_last checked checked_last =
    let both = later-none (unbuilt_arm (in_arm unbuilt_in (self_arm arm))) (first_of (map unbuilt_arm (map (in_arm unbuilt_in) (map self_arm arms)))) built in
    let parts = later-none (unless (is_condition (form_of arm.condition)) arm.line) (first_of (map unbuilt_in (map self arm.body))) both.0 in
    let test = then-knows (uses arm.line known (unknown_in arm.condition known)) (λ k. and_then (check_all (map check_statement (map self arm.body)) inside k) (check_arms (map (in_arm check_statement) (map self_arm arms)) inside)) middle checked in
    let held = condition-fares arm.line arm.condition known test.0 parts.0 test.1 in
    let inner = then-knows (check_all (map check_statement (map self arm.body)) inside test.0) (check_arms (map (in_arm check_statement) (map self_arm arms)) inside) middle test.2 in
    let body = block-fares arm.body inside known inner.0 parts.1 (ap (check_all (map check_statement (map self arm.body)) inside) held.0 ∙ inner.1) in
    let rest = arms-fare arms last inside inner.0 middle after both.1 built_last inner.2 checked_last in
    record {
      named = rest.named ∙ ap (λ (k : Names). names_in_arms k (core_arms (map (in_arm core_of) (map self_arm arms)) (map core_of (map self last)))) body.named;
      grows = λ n h. rest.grows n (body.grows n h);
      works = λ names within.
          (held.1 names (λ n h. within n (rest.grows n (body.grows n h))), body.works names (λ n h. within n (rest.grows n h)), rest.works names within);
    }

-- the same of one layer
abbrev KnownLayer : Statement-F Statement → Type 0
KnownLayer z = (inside : Bool) (known after : Names) → unbuilt_step (map-Statement Statement (Option ℕ) unbuilt_in z) ≡ None
    → check_step (map-Statement Statement Checks check_statement z) inside known ≡ Knows after → Fares known after (core_step (map-Statement Statement CoreStatement core_of z))

of-layer : (z : Statement-F Statement) → KnownLayer z → Known (roll-Statement z)
of-layer z h inside known after built checked =
    let e = fold-roll-Statement CoreStatement core_step z in
    let b = fold-roll-Statement (Option ℕ) unbuilt_step z in
    let c = fold-roll-Statement Checks check_step z in
    subst (Fares known after) (sym e) (h inside known after (sym b ∙ built) (sym (ap (λ (g : Checks). g inside known) c) ∙ checked))

some-line : (line : ℕ) → Some line ≡ None → ⊥
some-line line e = cc

layer : (y : Statement-F Said) → KnownLayer (map-Statement Said Statement self y)
layer (Assign line to o value) inside known after built checked = assigned line to o value known after built checked
layer (Call line called all) inside known after built checked = called-fares line called all known after built checked
layer (If line arms last) inside known after built checked =
    let both = later-none (first_of (map unbuilt_arm (map (in_arm unbuilt_in) (map self_arm arms)))) (first_of (map unbuilt_in (map self last))) built in
    let found = then-knows (check_arms (map (in_arm check_statement) (map self_arm arms)) inside known) (check_all (map check_statement (map self last)) inside) after checked in
    let fares = arms-fare arms last inside known found.0 after both.0 both.1 found.1 found.2 in
    record { named = fares.named; grows = fares.grows; works = fares.works }
layer (While line condition body) inside known after built checked =
    let both = later-none (unless (is_condition (form_of condition)) line) (unbuilt_in body.0) built in
    let found = then-knows (uses line known (unknown_in condition known)) (check_statement body.0 true) after checked in
    let held = condition-fares line condition known found.0 both.0 found.1 in
    let fares = body.1 true known after both.1 (ap (check_statement body.0 true) held.0 ∙ found.2) in
    record {
      named = fares.named;
      grows = fares.grows;
      works = λ names within. (held.1 names (λ n h. within n (fares.grows n h)), fares.works names within);
    }
layer (Do line body) inside known after built checked =
    let fares = block-fares body inside known after built checked in
    record { named = fares.named; grows = fares.grows; works = fares.works }
layer (Break line) inside known after built checked = exit-fares inside line known after (break_ line) checked refl (λ names. tt)
layer (Next line) inside known after built checked = exit-fares inside line known after (next_ line) checked refl (λ names. tt)
layer (Fill line name values) inside known after built checked = absurd (some-line line built)
layer (Case line value alternatives last) inside known after built checked = absurd (some-line line built)
layer (Forall line index body) inside known after built checked = absurd (some-line line built)
layer (Repeat line body until_line condition) inside known after built checked = absurd (some-line line built)
layer (Initializations line direction name labels) inside known after built checked = absurd (some-line line built)

known-statement : (s : Statement) → Known s
known-statement = ind-Statement Known (λ x y is. subst (λ z. Known (roll-Statement z)) is (of-layer (map-Statement Said Statement self y) (layer y)))

tops-fare : (tops : List Top) (known after : Names) → first_of (map unbuilt_in_top tops) ≡ None → check_tops tops known ≡ Knows after
    → FaresAll known after (block (map core_of_top tops))
tops-fare [] known after built checked =
    let same : known ≡ after = cc in
    subst (λ (k : Names). FaresAll known k no_statement) same (record { named = refl; grows = λ n h. h; works = λ names within. tt })
tops-fare (top.Statement s ∷ tops) known after built checked =
    let both = later-none (unbuilt_in s) (first_of (map unbuilt_in_top tops)) built in
    let found = then-knows (check_statement s false known) (check_tops tops) after checked in
    let one = known-statement s false known found.0 both.0 found.1 in
    let rest = tops-fare tops found.0 after both.1 found.2 in
    record {
      named = rest.named ∙ ap (λ (k : Names). names_from k (block (map core_of_top tops))) one.named;
      grows = λ n h. rest.grows n (one.grows n h);
      works = λ names within. (one.works names (λ n h. within n (rest.grows n h)), rest.works names within);
    }
tops-fare (_ ∷ tops) known after built checked = cc

no-heads : (heads : List Head) (tops : List Top) → unbuilt_behind heads tops ≡ None → first_of (map unbuilt_in_top tops) ≡ None
no-heads [] tops h = not-mapped (first_of (map unbuilt_in_top tops)) h
  where
    not-mapped : (x : Option ℕ) → option_map at_syntax x ≡ None → x ≡ None
    not-mapped None e = refl
    not-mapped (Some line) e = cc
no-heads (head ∷ heads) tops h = absurd (none-there (unbuilt_head head) h)
  where
    none-there : (x : ℕ × Kind) → Some x ≡ None → ⊥
    none-there x e = cc

-- the model of a checked tree works
pub checked-works : (tree : Tree) (names : Names) → unbuilt_of tree ≡ None → check_of tree ≡ Knows names → AllWork (variables_of (statements_of tree)) (statements_of tree)
checked-works tree names built checked =
    let fares = tops-fare tree.tops [] names (no-heads tree.heads tree.tops built) checked in
    fares.works (variables_of (statements_of tree)) (λ n h. subst (λ (k : Names). has_name n k ≡ true) fares.named h)

-- Whole runs of the machine, and what the call answers.

use Rattle.std.proofs.Common.{◌≡◌, ℕ, ◌≤◌, List, [], ◌∷◌, ◌++◌, length, Option, Some, None, Result, Ok, Err, refl, sym, ◌∙◌, ap, subst, arith}
use Rattle.std.specs.Prelude.{IfOk, IfErr}
use Rattle.std.proofs.lemmas.List.{append-nil}
use Rattle.mos_text.specs.declared.kind.Kind.{Kind}
use Rattle.mos_text.specs.declared.kind.Kind.TheVariants as kind
use Rattle.mos_tree.specs.declared.source.Tree.{Tree}
use Rattle.mos_tree.specs.Sizes.{size_of_tree, size_of_pieces}
use Rattle.mos_source.specs.declared.fault.PieceFault.{PieceFault}
use Rattle.mos_source.specs.declared.fault.PieceFault.TheVariants as fault
use Rattle.mos_tree.specs.declared.form.Form.{Form}
use Rattle.mos_tree.specs.declared.form.PieceForm.{PieceForm}
use Rattle.mos_source.specs.declared.frame.Frame.TheVariants as frame_kind
use Rattle.mos_source.specs.declared.place.Role.{Role}
use Rattle.mos_source.specs.declared.place.Role.TheVariants.{Opens, Continues, StandsAlone, Closes}
use Rattle.mos_source.specs.Sources.{Source, spell_source, tree_of, limit, IsWithin, IsSource}
use Rattle.mos_source.specs.Faults.{Begins, IsStuck, IsKind, too_early, line_of_first, FaultyOn}
use Rattle.mos_tree.specs.Forms.{piece_kind_of}
use Rattle.mos_source.specs.Limits.{own_limit}
use Rattle.mos_source.specs.Places.{role_at}
use Rattle.mos_source.specs.Answers.{IsTree, Gives, IsFaultOf, BreaksBy}
use Rattle.mos_source.specs.Laws.{ProductionsBreak}
use Rattle.mos_source.specs.Productions.{BreaksAt}
use Rattle.mos_source.specs.Machine.{Stack, place_of, enter, block_limit, or_block, step_as, step_in, step, Outcome, done, stopped, finished_tree, at_end, behind, run}
use Rattle.mos_source.specs.Runs.{Answers}
use Rattle.mos_source.proofs.Steps.{block-fits, run-step, one-end}
use Rattle.mos_source.proofs.CompleteSource.{source-read}
use Rattle.mos_source.proofs.Held.{Holds}
use Rattle.mos_source.proofs.Sound.{respelled}
use Rattle.mos_source.proofs.SoundStep.{sound, goes-is, no-limit, fits-is}
use Rattle.mos_source.proofs.Completing.{Closed, closing}
use Rattle.mos_source.proofs.Naming.{named-step}
use Rattle.mos_source.proofs.TreeSizes.{size_of_source}

-- ---- a whole run

pub record Found (deep : ℕ) (ps : List PieceForm) (tree : Tree) : Type 0 where
  pub source : Source
  pub within : IsWithin deep source
  pub exact : ps ≡ spell_source source
  pub is : tree ≡ tree_of source

found-end : (deep : ℕ) (k : Stack) (ps : List PieceForm) (tree : Tree) → Holds deep k ps → at_end (finished_tree k) ≡ done tree → Found deep ps tree
found-end deep [] ps tree held e = let no : ⊥ = cc in absurd no
found-end deep (frame_kind.End x ∷ k) ps tree held e =
    let same : x ≡ tree = cc in
    record { source = held.source; within = held.within; exact = held.exact; is = sym same ∙ held.is }
found-end deep (_ ∷ k) ps tree held e = let no : ⊥ = cc in absurd no

found-behind : (deep : ℕ) (k : Stack) (x : PieceForm) (xs ps : List PieceForm) (tree : Tree) (r : Result Stack Kind) → step deep k x ≡ r → Holds deep k ps → behind r (λ next. run deep next xs) (x ∷ xs) ≡ done tree → ((next : Stack) (qs : List PieceForm) → Holds deep next qs → run deep next xs ≡ done tree → Found deep (qs ++ xs) tree) → Found deep (ps ++ x ∷ xs) tree
found-behind deep k x xs ps tree (Ok next) s held e go =
    let it : Found deep ((ps ++ x ∷ []) ++ xs) tree = go next (ps ++ x ∷ []) (sound deep k next x ps held s) e in
    record { source = it.source; within = it.within; exact = sym (one-end ps x xs) ∙ it.exact; is = it.is }
found-behind deep k x xs ps tree (Err wrong) s held e go = let no : ⊥ = cc in absurd no

pub run-found : (deep : ℕ) (xs : List PieceForm) (k : Stack) (ps : List PieceForm) (tree : Tree) → Holds deep k ps → run deep k xs ≡ done tree → Found deep (ps ++ xs) tree
run-found deep [] k ps tree held e =
    let it : Found deep ps tree = found-end deep k ps tree held e in
    record { source = it.source; within = it.within; exact = append-nil ps ∙ it.exact; is = it.is }
run-found deep (x ∷ xs) k ps tree held e = found-behind deep k x xs ps tree (step deep k x) refl held e (λ next qs h d. run-found deep xs next qs tree h d)

-- ---- a run that stops

-- a deeper limit takes as much
step-deeper-as : (deep deeper : ℕ) (role : Role) (line : ℕ) (form : Form) (k next : Stack) → deep ≤ deeper → step_as deep role line form k ≡ Ok next → step_as deeper role line form k ≡ Ok next
unfolding step_as
step-deeper-as deep deeper Opens line form k next h e =
    let is : (or_block (own_limit form) (block_limit deep Opens (length k)) ≡ None) × (enter Opens line form k ≡ next) = goes-is (or_block (own_limit form) (block_limit deep Opens (length k))) (enter Opens line form k) next e in
    let limits : (own_limit form ≡ None) × (block_limit deep Opens (length k) ≡ None) = no-limit (own_limit form) (block_limit deep Opens (length k)) is.0 in
    let fits : length k ≤ deep = fits-is deep (length k) limits.1 in
    let room : block_limit deeper Opens (length k) ≡ None = block-fits deeper (length k) (omega (arith, fits, h)) in
    rw (limits.0, room, is.1) refl
step-deeper-as deep deeper Continues line form k next h e = e
step-deeper-as deep deeper StandsAlone line form k next h e = e
step-deeper-as deep deeper Closes line form k next h e = e

deeper-in : (deep deeper : ℕ) (role : Option Role) (line : ℕ) (form : Form) (k next : Stack) → deep ≤ deeper → step_in deep role line form k ≡ Ok next → step_in deeper role line form k ≡ Ok next
deeper-in deep deeper None line form k next h e = e
deeper-in deep deeper (Some role) line form k next h e = step-deeper-as deep deeper role line form k next h e

pub step-deeper : (deep deeper : ℕ) (k : Stack) (x : PieceForm) (next : Stack) → deep ≤ deeper → step deep k x ≡ Ok next → step deeper k x ≡ Ok next
unfolding step
step-deeper deep deeper k x next h e = deeper-in deep deeper (role_at (place_of k) (piece_kind_of x.form)) x.line x.form k next h e

-- what is wrong behind the last piece that was taken
abbrev pub IsWrong : ℕ → Stack → List PieceForm → Kind → Type 0
IsWrong deep top [] wrong = (finished_tree top ≡ None) × (wrong ≡ kind.Syntax)
IsWrong deep top (x ∷ after) wrong = step deep top x ≡ Err wrong

pub record Stop (deep : ℕ) (k : Stack) (ps xs : List PieceForm) (wrong : Kind) (left : List PieceForm) : Type 0 where
  pub before : List PieceForm
  pub top : Stack
  pub cut : xs ≡ before ++ left
  pub held : (deeper : ℕ) → deep ≤ deeper → Holds deeper top (ps ++ before)
  pub goes : (deeper : ℕ) → deep ≤ deeper → (ys : List PieceForm) → run deeper k (before ++ ys) ≡ run deeper top ys
  pub stuck : IsWrong deep top left wrong

abbrev no_pieces : List PieceForm
no_pieces = []

abbrev HeldDeep : ℕ → Stack → List PieceForm → Type 0
HeldDeep deep k ps = (deeper : ℕ) → deep ≤ deeper → Holds deeper k ps

as-stop : (deep : ℕ) (k : Stack) (ps xs : List PieceForm) (a b : Kind) (left other : List PieceForm) → a ≡ b → left ≡ other → Stop deep k ps xs a left → Stop deep k ps xs b other
as-stop deep k ps xs a b left other e h it = subst (λ z. Stop deep k ps xs b z) h (subst (λ z. Stop deep k ps xs z left) e it)

stop-end : (deep : ℕ) (k : Stack) (ps : List PieceForm) (wrong : Kind) (left : List PieceForm) (o : Option Tree) → finished_tree k ≡ o → HeldDeep deep k ps → at_end o ≡ stopped wrong left → Stop deep k ps [] wrong left
stop-end deep k ps wrong left None f held e =
    let same : kind.Syntax ≡ wrong = cc in
    let rest : no_pieces ≡ left = cc in
    as-stop deep k ps [] kind.Syntax wrong [] left same rest
    (record { before = []; top = k; cut = refl; held = λ deeper h. respelled deeper k ps (ps ++ []) (sym (append-nil ps)) (held deeper h); goes = λ deeper h ys. refl; stuck = (f, refl) })
stop-end deep k ps wrong left (Some x) f held e = let no : ⊥ = cc in absurd no

stop-behind : (deep : ℕ) (k : Stack) (x : PieceForm) (xs ps : List PieceForm) (wrong : Kind) (left : List PieceForm) (r : Result Stack Kind) → step deep k x ≡ r → HeldDeep deep k ps → behind r (λ next. run deep next xs) (x ∷ xs) ≡ stopped wrong left → ((next : Stack) (qs : List PieceForm) → HeldDeep deep next qs → run deep next xs ≡ stopped wrong left → Stop deep next qs xs wrong left) → Stop deep k ps (x ∷ xs) wrong left
stop-behind deep k x xs ps wrong left (Ok next) s held e go =
    let it : Stop deep next (ps ++ x ∷ []) xs wrong left = go next (ps ++ x ∷ []) (λ deeper h. sound deeper k next x ps (held deeper h) (step-deeper deep deeper k x next h s)) e in
    record {
      before = x ∷ it.before;
      top = it.top;
      cut = ap (λ z. x ∷ z) it.cut;
      held = λ deeper h. respelled deeper it.top ((ps ++ x ∷ []) ++ it.before) (ps ++ x ∷ it.before) (one-end ps x it.before) (it.held deeper h);
      goes = λ deeper h ys. run-step deeper k next x (it.before ++ ys) (step-deeper deep deeper k x next h s) ∙ it.goes deeper h ys;
      stuck = it.stuck;
    }
stop-behind deep k x xs ps wrong left (Err found) s held e go =
    let same : found ≡ wrong = cc in
    let rest : x ∷ xs ≡ left = cc in
    as-stop deep k ps (x ∷ xs) found wrong (x ∷ xs) left same rest
    (record { before = []; top = k; cut = refl; held = λ deeper h. respelled deeper k ps (ps ++ []) (sym (append-nil ps)) (held deeper h); goes = λ deeper h ys. refl; stuck = s })

pub run-stopped : (deep : ℕ) (xs : List PieceForm) (k : Stack) (ps : List PieceForm) (wrong : Kind) (left : List PieceForm) → HeldDeep deep k ps → run deep k xs ≡ stopped wrong left → Stop deep k ps xs wrong left
run-stopped deep [] k ps wrong left held e = stop-end deep k ps wrong left (finished_tree k) refl held e
run-stopped deep (x ∷ xs) k ps wrong left held e = stop-behind deep k x xs ps wrong left (step deep k x) refl held e (λ next qs h d. run-stopped deep xs next qs wrong left h d)

named : (before : List PieceForm) (top : Stack) (left : List PieceForm) (wrong : Kind) → HeldDeep limit top before → ((deeper : ℕ) → limit ≤ deeper → (ys : List PieceForm) → run deeper [] (before ++ ys) ≡ run deeper top ys) → IsWrong limit top left wrong → IsKind before left wrong
named before top [] wrong held goes stuck = subst (λ z. IsKind before [] z) (sym stuck.1) too_early
named before top (x ∷ after) wrong held goes stuck = named-step before top x after wrong held goes stuck

-- ---- the faulty piece

-- with more pieces a source begins so
pub begins : (before : List PieceForm) (top : Stack) → Holds limit top before → Begins before
begins before top held =
    let it : Closed limit before = closing limit (length top) top before (omega arith) held in
    record { source = it.held.source; within = it.held.within; rest = it.rest; exact = sym it.held.exact }

pub run-wrong : (deep : ℕ) (k : Stack) (x : PieceForm) (xs : List PieceForm) (wrong : Kind) → step deep k x ≡ Err wrong → run deep k (x ∷ xs) ≡ stopped wrong (x ∷ xs)
run-wrong deep k x xs wrong e = rw e refl

pub is-stuck : (before : List PieceForm) (top : Stack) (left : List PieceForm) (wrong : Kind) → ((ys : List PieceForm) → run limit [] (before ++ ys) ≡ run limit top ys) → IsWrong limit top left wrong → IsStuck before left
is-stuck before top [] wrong goes stuck = λ x within exact.
    let whole : run limit [] before ≡ done (tree_of x) = subst (λ z. run limit [] z ≡ done (tree_of x)) exact (source-read limit x within.allowed within.fits) in
    let half : run limit [] before ≡ stopped kind.Syntax [] = ap (run limit []) (sym (append-nil before)) ∙ goes [] ∙ ap at_end stuck.0 in
    cc
is-stuck before top (y ∷ ys) wrong goes stuck = λ other.
    let whole : run limit [] (before ++ y ∷ other.rest) ≡ done (tree_of other.source) = subst (λ z. run limit [] z ≡ done (tree_of other.source)) (other.exact ∙ one-end before y other.rest) (source-read limit other.source other.within.allowed other.within.fits) in
    let half : run limit [] (before ++ y ∷ other.rest) ≡ stopped wrong (y ∷ other.rest) = goes (y ∷ other.rest) ∙ run-wrong limit top y other.rest wrong stuck in
    cc

pub faulty : (pieces : List PieceForm) (wrong : Kind) (left : List PieceForm) → run limit [] pieces ≡ stopped wrong left → FaultyOn pieces (line_of_first left) wrong
faulty pieces wrong left e =
    let it : Stop limit [] [] pieces wrong left = run-stopped limit pieces [] [] wrong left (λ deeper h. refl) e in
    record {
      before = it.before;
      after = left;
      cut = it.cut;
      line_is = refl;
      faulty = record {
        begun = begins it.before it.top (it.held limit (omega arith));
        stuck = is-stuck it.before it.top left wrong (it.goes limit (omega arith)) it.stuck;
      };
      named = named it.before it.top left wrong it.held it.goes it.stuck;
    }

-- ---- the answers of the call

found-answer : (pieces : List PieceForm) (o : Outcome) (result : Result Tree PieceFault) → run limit [] pieces ≡ o → Answers o result → IfOk result (λ x. IsTree pieces x)
found-answer pieces (done tree) (Ok x) e a =
    let it : Found limit pieces tree = run-found limit pieces [] [] tree refl e in
    (it.source, record { exact = it.exact; within = it.within }, a ∙ it.is)
found-answer pieces (stopped wrong left) (Ok x) e a = absurd a
found-answer pieces o (Err x) e a = tt

pub is-found : (pieces : List PieceForm) (result : Result Tree PieceFault) → Answers (run limit [] pieces) result → IfOk result (λ x. IsTree pieces x)
is-found pieces result a = found-answer pieces (run limit [] pieces) result refl a

gives : (x : Source) (result : Result Tree PieceFault) → Answers (done (tree_of x)) result → Gives result (tree_of x)
gives x (Ok y) a = a
gives x (Err fault.NoMemory) a = tt
gives x (Err (fault.At line wrong)) a = absurd a

pub is-only : (pieces : List PieceForm) (result : Result Tree PieceFault) → Answers (run limit [] pieces) result → (x : Source) → IsSource pieces x → Gives result (tree_of x)
is-only pieces result a x is =
    let whole : run limit [] pieces ≡ done (tree_of x) = subst (λ z. run limit [] z ≡ done (tree_of x)) (sym is.exact) (source-read limit x is.within.allowed is.within.fits) in
    gives x result (subst (λ o. Answers o result) whole a)

faulty-answer : (pieces : List PieceForm) (o : Outcome) (result : Result Tree PieceFault) → run limit [] pieces ≡ o → Answers o result → IfErr result (IsFaultOf pieces)
faulty-answer pieces o (Ok x) e a = tt
faulty-answer pieces o (Err fault.NoMemory) e a = tt
faulty-answer pieces (done tree) (Err (fault.At line wrong)) e a = absurd a
faulty-answer pieces (stopped found rest) (Err (fault.At line wrong)) e a =
    subst (λ z. FaultyOn pieces line z) (sym a.1) (subst (λ z. FaultyOn pieces z found) (sym a.0) (faulty pieces found rest e))

pub is-faulty : (pieces : List PieceForm) (result : Result Tree PieceFault) → Answers (run limit [] pieces) result → IfErr result (IsFaultOf pieces)
is-faulty pieces result a = faulty-answer pieces (run limit [] pieces) result refl a

breaks-answer : ProductionsBreak → (pieces : List PieceForm) (result : Result Tree PieceFault) → IfErr result (IsFaultOf pieces) → IfErr result (BreaksBy pieces)
breaks-answer law pieces (Ok x) h = tt
breaks-answer law pieces (Err fault.NoMemory) h = tt
breaks-answer law pieces (Err (fault.At line wrong)) h =
    record { before = h.before; after = h.after; cut = h.cut; line_is = h.line_is; faulty = h.faulty; breaks = subst (λ z. BreaksAt z h.after) (sym h.cut) (law h.before h.after h.faulty) }

-- the faulty piece is the one at which the productions break
pub is-break : ProductionsBreak → (pieces : List PieceForm) (result : Result Tree PieceFault) → Answers (run limit [] pieces) result → IfErr result (BreaksBy pieces)
is-break law pieces result a = breaks-answer law pieces result (is-faulty pieces result a)

no-larger : (pieces : List PieceForm) (result : Result Tree PieceFault) → IfOk result (IsTree pieces) → IfOk result (λ tree. size_of_tree tree ≤ size_of_pieces pieces)
no-larger pieces (Ok tree) h = omega (arith, size_of_source h.0, ap size_of_tree h.2, ap size_of_pieces h.1.exact)
no-larger pieces (Err x) h = tt

-- the tree is no larger than its pieces
pub is-no-larger : (pieces : List PieceForm) (result : Result Tree PieceFault) → Answers (run limit [] pieces) result → IfOk result (λ tree. size_of_tree tree ≤ size_of_pieces pieces)
is-no-larger pieces result a = no-larger pieces result (is-found pieces result a)

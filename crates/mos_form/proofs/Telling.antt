-- What is told of words, from what is told of their expressions.

use Rattle.std.proofs.Common.{◌≡◌, ℕ, ◌<◌, ◌≤◌, nat_le, Bool, true, false, Some, Result, Ok, Err, IfOk, refl, sym, ◌∙◌, ap, subst, arith}
use Rattle.std.proofs.lemmas.Bool.{leb-true, leb-false}
use Rattle.mos_expr.specs.Grammar.{limit}
use Rattle.mos_expr.specs.Said.{Made, TooHigh, Says}
use Rattle.mos_expr.specs.declared.fault.ExprFault.{ExprFault}
use Rattle.mos_expr.specs.declared.fault.ExprFault.TheVariants as expr_fault
use Rattle.mos_tree.specs.declared.form.Form.{Form}
use Rattle.mos_tree.specs.declared.form.Form.TheVariants as form_kind
use Rattle.mos_tree.specs.declared.form.PieceKind.{PieceKind}
use Rattle.mos_tree.specs.Forms.{piece_kind_of}
use Rattle.mos_form.specs.Telling.{Tells, tells_form, tells_none, by_height, refusal}

-- either answer of a test
pub on_bool : {P : Type 0} (b : Bool) → (b ≡ true → P) → (b ≡ false → P) → P
on_bool true yes_case no_case = yes_case refl
on_bool false yes_case no_case = no_case refl

pub low : (h : ℕ) (form : Form) → h ≤ limit → by_height h form ≡ form
low h form less = on_bool (nat_le h 500) (λ e. rw e refl) (λ e. absurd (omega (arith, leb-false h 500 e)))

pub high : (h : ℕ) (form : Form) → limit < h → by_height h form ≡ form_kind.TooHigh (piece_kind_of form)
high h form more = on_bool (nat_le h 500) (λ e. absurd (omega (arith, leb-true h 500 e))) (λ e. rw e refl)

-- it is this form
pub tell_as : {A : Type 0} (Is : A → Type 0) (answer : A → Form) (form : Form) (a : A) → Is a → answer a ≡ form → ((y : A) → Is y → answer y ≡ form) → Tells A Is answer form
tell_as {A = A} Is answer form a h e only = subst (λ z. Tells A Is answer z) e (tells_form a h (λ y k. only y k ∙ sym e))

-- a kind of thing that is written, and what is said of the words that spell it
pub record Reads {S T : Type 0} (Is : S → Type 0) (tree_of : S → T) (height_of : S → ℕ) (Spells : T → ℕ → Type 0) : Type 0 where
  pub into : (s : S) → Is s → Spells (tree_of s) (height_of s)
  pub back : (t : T) (h : ℕ) → Spells t h → (s : S) × Is s × (t ≡ tree_of s) × (h ≡ height_of s)

module _ {S T : Type 0} (Is : S → Type 0) (tree_of : S → T) (height_of : S → ℕ) (Spells : T → ℕ → Type 0) (reads : Reads Is tree_of height_of Spells) (make : T → Form) where
  abbrev told_of : S → Form
  told_of s = by_height (height_of s) (make (tree_of s))

  made_is : (t : T) → Made Spells t → (s : S) → Is s → told_of s ≡ make t
  made_is t k s h =
      let o : (tree_of s ≡ t) × (height_of s ≤ limit) = k.only (tree_of s) (height_of s) (reads.into s h) in
      low (height_of s) (make (tree_of s)) o.1 ∙ ap make o.0

  -- the expressions have trees
  pub tell_ok : (t : T) → Says Spells (Ok t) → Tells S Is told_of (make t)
  unfolding Says
  tell_ok t k =
      let b : (s : S) × Is s × (t ≡ tree_of s) × (k.high ≡ height_of s) = reads.back t k.high k.is in
      tell_as Is told_of (make t) b.0 b.1 (made_is t k b.0 b.1) (made_is t k)

  high_is : (kind : PieceKind) → ((t : T) → piece_kind_of (make t) ≡ kind) → TooHigh Spells → (s : S) → Is s → told_of s ≡ form_kind.TooHigh kind
  high_is kind same k s h = high (height_of s) (make (tree_of s)) (k.only (tree_of s) (height_of s) (reads.into s h)) ∙ ap form_kind.TooHigh (same (tree_of s))

  -- they have none
  tell_fault : (kind : PieceKind) → ((t : T) → piece_kind_of (make t) ≡ kind) → (fault : ExprFault) → Says Spells (Err fault) → (form : Form) → Some form ≡ refusal kind fault → Tells S Is told_of form
  unfolding Says
  tell_fault kind same expr_fault.NoMemory k form e = cc
  tell_fault kind same expr_fault.NoExpr k form e =
      let p : form ≡ form_kind.Unknown = cc in
      subst (Tells S Is told_of) (sym p) (tells_none (λ s h. k.none (tree_of s) (height_of s) (reads.into s h)))
  tell_fault kind same expr_fault.Deep k form e =
      let p : form ≡ form_kind.TooHigh kind = cc in
      let b : (s : S) × Is s × (k.made ≡ tree_of s) × (k.high ≡ height_of s) = reads.back k.made k.high k.is in
      subst (Tells S Is told_of) (sym p) (tell_as Is told_of (form_kind.TooHigh kind) b.0 b.1 (high_is kind same k b.0 b.1) (high_is kind same k))

  pub tell_err : {E : Type 0} (kind : PieceKind) → ((t : T) → piece_kind_of (make t) ≡ kind) → (fault : ExprFault) → Says Spells (Err fault) → (r : Result Form E) → IfOk r (λ form. Some form ≡ refusal kind fault) → IfOk r (Tells S Is told_of)
  tell_err kind same fault k (Err e) is = tt
  tell_err kind same fault k (Ok form) is = tell_fault kind same fault k form is

-- what is told of one kind of thing is told of another that it becomes
pub embed : {A B : Type 0} (Is : A → Type 0) (answer : A → Form) (Are : B → Type 0) (answers : B → Form) (into : A → B)
    → ((a : A) → Is a → Are (into a)) → ((b : B) → Are b → (a : A) × Is a × (b ≡ into a)) → ((a : A) → answers (into a) ≡ answer a)
    → (form : Form) → Tells A Is answer form → Tells B Are answers form
embed Is answer Are answers into there back same _ (tells_form a h only) =
    tell_as Are answers (answer a) (into a) (there a h) (same a)
    (λ b k. let q = back b k in ap answers q.2 ∙ same q.0 ∙ only q.0 q.1)
embed Is answer Are answers into there back same _ (tells_none none) = tells_none (λ b k. let q = back b k in none q.0 q.1)

pub embed_ok : {A B E : Type 0} (Is : A → Type 0) (answer : A → Form) (Are : B → Type 0) (answers : B → Form) (into : A → B)
    → ((a : A) → Is a → Are (into a)) → ((b : B) → Are b → (a : A) × Is a × (b ≡ into a)) → ((a : A) → answers (into a) ≡ answer a)
    → (r : Result Form E) → IfOk r (Tells A Is answer) → IfOk r (Tells B Are answers)
embed_ok Is answer Are answers into there back same (Ok form) h = embed Is answer Are answers into there back same form h
embed_ok Is answer Are answers into there back same (Err e) h = tt

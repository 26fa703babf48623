-- A stack is the same as itself.

use Rattle.std.proofs.Common.{◌≡◌, ℕ, Bool, true, false, List, [], ◌∷◌, refl, nat_eq, arith}
use Rattle.std.specs.Prelude.{◌&&◌, ◌||◌}
use Rattle.std.proofs.lemmas.Bool.Decides.{nat_tests}
use Rattle.bim_code.specs.declared.image.Image.{Image}
use Rattle.bim_code.specs.declared.image.Form.{Form}
use Rattle.bim_code.specs.declared.image.Form.TheVariants.{Value, Place, Walk}
use Rattle.bim_verify.specs.declared.kinds.Kind.{Kind}
use Rattle.bim_verify.specs.declared.kinds.Sort.{Sort}
use Rattle.bim_verify.specs.declared.kinds.Sort.TheVariants.{Integer, Boolean, Str, Other}
use Rattle.bim_verify.specs.Kinds.{same_form, same_sort, same_kind, same_all, same_stack}

pub self : (n : ℕ) → nat_eq n n ≡ true
self n = grind (arith, nat_tests)

both : (s t : Bool) → s ≡ true → t ≡ true → (s && t) ≡ true
both true t d e = e
both false t d e = cc

either : (s t : Bool) → s ≡ true → (s || t) ≡ true
either true t e = refl
either false t e = cc

form_self : (form : Form) → same_form form form ≡ true
form_self Value = refl
form_self Place = refl
form_self Walk = refl

sort_self : (image : Image) (sort : Sort) → same_sort image sort sort ≡ true
sort_self image Integer = refl
sort_self image Boolean = refl
sort_self image Str = refl
sort_self image (Other n) = either (nat_eq n n) _ (self n)

kind_self : (image : Image) (kind : Kind) → same_kind image kind kind ≡ true
kind_self image kind = both (same_form kind.form kind.form) (same_sort image kind.sort kind.sort) (form_self kind.form) (sort_self image kind.sort)

all_self : {A : Type 0} (same : A → A → Bool) → ((a : A) → same a a ≡ true) → (all : List A) → same_all same all all ≡ true
all_self same one [] = refl
all_self same one (a ∷ more) = both (same a a) (same_all same more more) (one a) (all_self same one more)

pub stack_self : (image : Image) (stack : List Kind) → same_stack image stack stack ≡ true
stack_self image stack = all_self (same_kind image) (kind_self image) stack

-- A word is a type exactly where a type is spelled by it.

use Rattle.std.proofs.Common.{◌≡◌, ℕ, Option, Some, None, Result, refl, sym, ◌∙◌, ap, arith}
use Rattle.mos_tree.specs.declared.declaration.BaseType.{BaseType}
use Rattle.mos_tree.specs.declared.declaration.BaseType.TheVariants as base
use Rattle.mos_scan.specs.declared.token.TokenKind.TheVariants as token_kind
use Rattle.mos_scan.specs.declared.grammar_word.Word.{Word}
use Rattle.mos_scan.specs.declared.grammar_word.Word.TheVariants as word_kind
use Rattle.mos_typing.specs.Typing.{base_word}
use Rattle.mos_expr.specs.Said.{Gives, Says}
use Rattle.mos_expr.specs.declared.fault.ExprFault.{ExprFault}
use Rattle.mos_typing.specs.Joining.{or_nothing}
use Rattle.mos_typing.specs.Reader.{base_of}
use Rattle.mos_typing.proofs.Saying.{says_nothing, says_made, says_gives}

pub base_known : (x : Word) (b : BaseType) → base_of x ≡ Some b → x ≡ base_word b
base_known (word_kind.Key token_kind.Integer) b e = let p : base.Integer ≡ b = cc in ap base_word p
base_known (word_kind.Key token_kind.Boolean) b e = let p : base.Boolean ≡ b = cc in ap base_word p
base_known (word_kind.Key token_kind.StringWord) b e = let p : base.Text ≡ b = cc in ap base_word p
base_known (word_kind.Name n) b e = let p : base.Named n ≡ b = cc in ap base_word p
base_known _ b e = cc

pub base_read : (b : BaseType) → base_of (base_word b) ≡ Some b
base_read base.Integer = refl
base_read _ = refl

-- the word is this type, which has no height
pub record IsBase (x : Word) (made : BaseType) (high : ℕ) : Type 0 where
  pub is : base_of x ≡ Some made
  pub high_is : high ≡ 0

base_says : (x : Word) (q : Option BaseType) → base_of x ≡ q → Says (IsBase x) (or_nothing q)
base_says x None e = says_nothing (IsBase x) (λ b h k. let p : None ≡ Some b = sym e ∙ k.is in cc)
base_says x (Some b) e =
    says_made (IsBase x) b 0 (record { is = e; high_is = refl }) (omega arith)
    (λ c h k. let p : Some c ≡ Some b = sym k.is ∙ e in let o : h ≡ 0 = k.high_is in (cc, omega arith))

pub says_base : (x : Word) (r : Result BaseType ExprFault) → Gives r (or_nothing (base_of x)) → Says (IsBase x) r
says_base x r g = says_gives (IsBase x) r (or_nothing (base_of x)) g (base_says x (base_of x) refl)

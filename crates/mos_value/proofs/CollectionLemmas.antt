-- when items make a collection
use Rattle.std.proofs.Common.{◌≡◌, ◌<◌, ◌≤◌, Bool, true, false, List, Result, Ok, Err, length, refl, ap, sym, ◌∙◌, ⊎_elim, true≢false, arith, if◌then◌else◌}
use Rattle.std.specs.Prelude.{nat_le}
use Rattle.std.proofs.lemmas.Bool.{leb-true, le-leb}
use Rattle.std.proofs.lemmas.Bool.Decides.{leb_tells}
use Rattle.mos_text.specs.declared.fault_kind.FaultKind.{FaultKind}
use Rattle.mos_text.specs.declared.fault_kind.FaultKind.TheVariants.{TooBig}
use Rattle.mos_text.specs.declared.scalar.Scalar.{Scalar}
use Rattle.mos_value.specs.Collections.{collection_limit, collection_of}
use Rattle.mos_value.specs.UpToMemory.{UpToMemory, IsCause}
use Rattle.mos_value.specs.declared.fault.ValueFault.{ValueFault}
use Rattle.mos_value.specs.declared.fault.ValueFault.TheVariants.{Fault, NoMemory}

-- those that are few enough do
pub collection_few : (items : List Scalar) → length items ≤ collection_limit → collection_of items ≡ Ok items
collection_few items few = ap (λ (b : Bool). if b then Ok items else Err TooBig) (le-leb (length items) collection_limit few)

-- and those that are too many do not
pub collection_many : (items : List Scalar) → collection_limit < length items → collection_of items ≡ Err TooBig
collection_many items many = ap (λ (b : Bool). if b then Ok items else Err TooBig) not_few
  where
    not_few : nat_le (length items) collection_limit ≡ false
    not_few = ⊎_elim (λ w. absurd (omega (arith, many, w.1))) (λ w. w.0) (leb_tells (length items) collection_limit)

-- so what makes one is few enough, and is it
pub collection_is : (items made : List Scalar) → collection_of items ≡ Ok made → (made ≡ items) × (length items ≤ collection_limit)
collection_is items made is = by (nat_le (length items) collection_limit) refl is
  where
    by : (b : Bool) → nat_le (length items) collection_limit ≡ b
        → (if b then Ok items else Err TooBig) ≡ Ok made → (made ≡ items) × (length items ≤ collection_limit)
    by true few e = (cc, leb-true (length items) collection_limit few)
    by false few e = cc

-- and where some are too many, more are
pub collection_further : (items more : List Scalar) (kind : FaultKind) → length items ≤ length more
    → collection_of items ≡ Err kind → collection_of more ≡ Err kind
collection_further items more kind longer is = by (nat_le (length items) collection_limit) refl is
  where
    many : nat_le (length items) collection_limit ≡ false → collection_limit < length more
    many few = ⊎_elim (λ w. absurd (true≢false (sym w.0 ∙ few))) (λ w. omega (arith, longer, w.1)) (leb_tells (length items) collection_limit)

    by : (b : Bool) → nat_le (length items) collection_limit ≡ b → (if b then Ok items else Err TooBig) ≡ Err kind → collection_of more ≡ Err kind
    by true few e = cc
    by false few e = collection_many more (many few) ∙ e

-- so a call that is refused one item more is refused all that come
pub cause_further : (items more : List Scalar) → length items ≤ length more
    → (fault : ValueFault) → IsCause fault (collection_of items) → IsCause fault (collection_of more)
cause_further items more longer (Fault kind) is = collection_further items more kind longer is
cause_further items more longer NoMemory is = tt

-- a refusal has its cause
pub refused_by : {A : Type 0} (fault : ValueFault) (defined : Result A FaultKind) → IsCause fault defined → UpToMemory (Err fault) defined
refused_by (Fault kind) defined is = is
refused_by NoMemory defined is = tt

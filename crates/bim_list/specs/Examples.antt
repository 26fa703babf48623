-- Computed examples of listings.
use Rattle.std.specs.Prelude.{◌≡◌, ◌++◌, codes}
use Rattle.bim_code.specs.Examples.{ends_at_once, every_part}
use Rattle.bim_list.specs.Listing.{listing}

-- the image that ends at once
abbrev pub EndsAtOnceListing : Type 0
EndsAtOnceListing = listing ends_at_once ≡ codes "0 PushInt 0\n5 End\n"

-- the image with each instruction
abbrev pub EveryPartListing : Type 0
EveryPartListing = listing every_part ≡
    codes "0 Tick\n1 PushInt -2\n6 PushBool 1\n11 PushStr 1\n16 LoadG 258\n21 StoreG 1\n"
    ++ codes "26 Add\n27 Sub\n28 Show\n29 Write\n30 Line\n31 End\n32 Fault 1\n37 Swap\n"
    ++ codes "38 Eq\n39 Ne\n40 Lt\n41 Le\n42 Gt\n43 Ge\n44 Jump 37\n49 JumpIf 0\n54 JumpNot 258\n"

-- Document 01's example: the listing of its trace is its five lines, byte for byte, by computation.
use Rattle.std.proofs.Common.{◌≡◌, ℕ, List, [], ◌∷◌, ◌++◌, refl}
use Rattle.trace_laws.specs.Example.{example_trace}
use Rattle.listing.specs.Listing.{listing}
use Rattle.listing.proofs.Computing.{listing_computing}

-- what document 01 says that it prints
abbrev pub example_listing : List ℕ
example_listing =
    -- 0 0 0 0 0 0 -
    (48 ∷ 32 ∷ 48 ∷ 32 ∷ 48 ∷ 32 ∷ 48 ∷ 32 ∷ 48 ∷ 32 ∷ 48 ∷ 32 ∷ 45 ∷ 10 ∷ [])
    -- 1 2 0 0 0 0 -
    ++ (49 ∷ 32 ∷ 50 ∷ 32 ∷ 48 ∷ 32 ∷ 48 ∷ 32 ∷ 48 ∷ 32 ∷ 48 ∷ 32 ∷ 45 ∷ 10 ∷ [])
    -- 2 9 0 0 0 0 -
    ++ (50 ∷ 32 ∷ 57 ∷ 32 ∷ 48 ∷ 32 ∷ 48 ∷ 32 ∷ 48 ∷ 32 ∷ 48 ∷ 32 ∷ 45 ∷ 10 ∷ [])
    -- 3 4 0 1 0 1 and sixteen a0
    ++ (51 ∷ 32 ∷ 52 ∷ 32 ∷ 48 ∷ 32 ∷ 49 ∷ 32 ∷ 48 ∷ 32 ∷ 49 ∷ 32 ∷ [])
    ++ (97 ∷ 48 ∷ 97 ∷ 48 ∷ 97 ∷ 48 ∷ 97 ∷ 48 ∷ 97 ∷ 48 ∷ 97 ∷ 48 ∷ 97 ∷ 48 ∷ 97 ∷ 48 ∷ [])
    ++ (97 ∷ 48 ∷ 97 ∷ 48 ∷ 97 ∷ 48 ∷ 97 ∷ 48 ∷ 97 ∷ 48 ∷ 97 ∷ 48 ∷ 97 ∷ 48 ∷ 97 ∷ 48 ∷ 10 ∷ [])
    -- 4 11 0 0 1 1 -
    ++ (52 ∷ 32 ∷ 49 ∷ 49 ∷ 32 ∷ 48 ∷ 32 ∷ 48 ∷ 32 ∷ 49 ∷ 32 ∷ 49 ∷ 32 ∷ 45 ∷ 10 ∷ [])

pub example_listing_holds : listing example_trace ≡ example_listing
unfolding listing_computing
example_listing_holds = refl

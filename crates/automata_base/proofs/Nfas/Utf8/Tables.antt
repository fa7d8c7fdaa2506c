-- The decoder of the program, and the tests that it passes.
use Rattle.std.proofs.Common.{◌≡◌, ◌∷◌, true, List, [], refl}
use Rattle.automata_base.specs.declared.nfa.thompson.utf8.Class.{Class}
use Rattle.automata_base.proofs.Nfas.Utf8.Decoding.{decodes_utf8}
use Rattle.automata_base.proofs.Nfas.Utf8.Edges.{chained}

-- The decoder for bytes from the first to the last.
abbrev pub forward : List Class
forward =
    record { first = 0; last = 127; to = 0 ∷ 1 ∷ 1 ∷ 1 ∷ 1 ∷ 1 ∷ 1 ∷ 1 ∷ 1 ∷ 1 ∷ 1 ∷ [] }
    ∷ record { first = 128; last = 143; to = 1 ∷ 1 ∷ 0 ∷ 2 ∷ 3 ∷ 1 ∷ 2 ∷ 1 ∷ 3 ∷ 1 ∷ 1 ∷ [] }
    ∷ record { first = 144; last = 159; to = 1 ∷ 1 ∷ 0 ∷ 2 ∷ 3 ∷ 1 ∷ 2 ∷ 3 ∷ 1 ∷ 1 ∷ 1 ∷ [] }
    ∷ record { first = 160; last = 191; to = 1 ∷ 1 ∷ 0 ∷ 2 ∷ 3 ∷ 2 ∷ 1 ∷ 3 ∷ 1 ∷ 1 ∷ 1 ∷ [] }
    ∷ record { first = 192; last = 193; to = 1 ∷ 1 ∷ 1 ∷ 1 ∷ 1 ∷ 1 ∷ 1 ∷ 1 ∷ 1 ∷ 1 ∷ 1 ∷ [] }
    ∷ record { first = 194; last = 223; to = 2 ∷ 1 ∷ 1 ∷ 1 ∷ 1 ∷ 1 ∷ 1 ∷ 1 ∷ 1 ∷ 1 ∷ 1 ∷ [] }
    ∷ record { first = 224; last = 224; to = 5 ∷ 1 ∷ 1 ∷ 1 ∷ 1 ∷ 1 ∷ 1 ∷ 1 ∷ 1 ∷ 1 ∷ 1 ∷ [] }
    ∷ record { first = 225; last = 236; to = 3 ∷ 1 ∷ 1 ∷ 1 ∷ 1 ∷ 1 ∷ 1 ∷ 1 ∷ 1 ∷ 1 ∷ 1 ∷ [] }
    ∷ record { first = 237; last = 237; to = 6 ∷ 1 ∷ 1 ∷ 1 ∷ 1 ∷ 1 ∷ 1 ∷ 1 ∷ 1 ∷ 1 ∷ 1 ∷ [] }
    ∷ record { first = 238; last = 239; to = 3 ∷ 1 ∷ 1 ∷ 1 ∷ 1 ∷ 1 ∷ 1 ∷ 1 ∷ 1 ∷ 1 ∷ 1 ∷ [] }
    ∷ record { first = 240; last = 240; to = 7 ∷ 1 ∷ 1 ∷ 1 ∷ 1 ∷ 1 ∷ 1 ∷ 1 ∷ 1 ∷ 1 ∷ 1 ∷ [] }
    ∷ record { first = 241; last = 243; to = 4 ∷ 1 ∷ 1 ∷ 1 ∷ 1 ∷ 1 ∷ 1 ∷ 1 ∷ 1 ∷ 1 ∷ 1 ∷ [] }
    ∷ record { first = 244; last = 244; to = 8 ∷ 1 ∷ 1 ∷ 1 ∷ 1 ∷ 1 ∷ 1 ∷ 1 ∷ 1 ∷ 1 ∷ 1 ∷ [] }
    ∷ record { first = 245; last = 255; to = 1 ∷ 1 ∷ 1 ∷ 1 ∷ 1 ∷ 1 ∷ 1 ∷ 1 ∷ 1 ∷ 1 ∷ 1 ∷ [] }
    ∷ []

pub forward_decodes : decodes_utf8 forward ≡ true
forward_decodes = refl

pub forward_chained : chained 0 forward ≡ true
forward_chained = refl

-- A draft that gets one pattern after another.
use Rattle.std.proofs.Common.{ℕ, suc, ◌≡◌, ◌+◌, ◌-◌, ◌*◌, ◌<◌, ◌≤◌, List, [], ◌∷◌, ◌++◌, Bool, Bor, false, length, map}
use Rattle.std.proofs.Common.{take, get_or, option_map, refl, sym, ap, ap₂, ◌∙◌, subst, ⊎_elim, arith, add-one}
use Rattle.std.proofs.Common.{length-append}
use Rattle.std.specs.Prelude.{slice_get, sum_by}
use Rattle.std.proofs.lemmas.List.{append_assoc, length-map, length-take-le, map-append, take-map}
use Rattle.std.proofs.lemmas.List.Sums.{sum_by-append, sum_by-cons}
use Rattle.std.proofs.lemmas.Option.{slice_get-get_or, slice_get-map}
use Rattle.std.proofs.Math.Seq.{take-suc}
use Rattle.regex_hir.specs.Re.{Re}
use Rattle.regex_nfa.specs.Sizes.{table_bytes}
use Rattle.regex_nfa.specs.declared.nfa.Nfa as kit_nfa
use Rattle.regex_syntax.specs.declared.Config.{Config}
use Rattle.automata_transform.specs.Nfas.FlattenedNfas.{IsFlattenedNfa}
use Rattle.automata_base.specs.Nfas.Engines.{Engine, any_byte, engine_of}
use Rattle.automata_base.specs.Nfas.Nfa.{Nfa, Node, Split}
use Rattle.automata_base.specs.Nfas.Nodes as ours
use Rattle.automata_base.specs.Nfas.Nodes.{Automaton}
use Rattle.automata_base.specs.declared.nfa.thompson.state.Flags.{Flags}
use Rattle.automata_base.specs.declared.nfa.thompson.state.State.{State}
use Rattle.automata_base.specs.declared.util.search.MatchKind.TheVariants.{LeftmostFirst}
use Rattle.meaning.specs.Agreeing.{Each, HasMeaning, HasNoUnicodeLook, ImplementAll}
use Rattle.meaning.specs.Translated.{joined_engine, joined_nfa, nodes_of, nodes_of_all, size_of, starts_of}
use Rattle.meaning.proofs.Lists.{our_nodes, length-our_nodes, length-starts_of, nodes_of_all_push, starts_of_push}
use Rattle.meaning.proofs.Unions.{length-nodes_of_all}
use Rattle.patterns.specs.Drafts.{Grows, Has, IsCompiled, IsDraftOf, IsLeft, IsMergedWithin, IsSimplified}
use Rattle.patterns.specs.Faults.{IsFaultOf, IsFirstFault, IsJoinFault, IsUnjoined}
use Rattle.patterns.specs.Patterns.{AreMeanings, IsMeaning, IsWithinLimit, config_of}
use Rattle.patterns.specs.declared.compile.Draft.{Draft}
use Rattle.patterns.specs.declared.compile.Options.{Options}
use Rattle.patterns.specs.declared.error.Fault.{Fault}
use Rattle.patterns.proofs.Building.{nfa_same}

meanings_push : (config : Config) (texts : List (List ℕ)) (res : List Re) (text : List ℕ) (re : Re) →
    AreMeanings config texts res → IsMeaning config text re → AreMeanings config (texts ++ text ∷ []) (res ++ re ∷ [])
meanings_push config [] [] text re are is = (is, tt)
meanings_push config [] (x ∷ res) text re are is = absurd are
meanings_push config (x ∷ texts) [] text re are is = absurd are
meanings_push config (x ∷ texts) (y ∷ res) text re are is = (are.0, meanings_push config texts res text re are.1 is)

implement_push : (ks : List kit_nfa.Nfa) (res : List Re) (k : kit_nfa.Nfa) (re : Re) →
    ImplementAll ks res → HasMeaning k re → ImplementAll (ks ++ k ∷ []) (res ++ re ∷ [])
implement_push [] [] k re are is = (is, tt)
implement_push [] (x ∷ res) k re are is = absurd are
implement_push (x ∷ ks) [] k re are is = absurd are
implement_push (x ∷ ks) (y ∷ res) k re are is = (are.0, implement_push ks res k re are.1 is)

each_push :
    (P : kit_nfa.Nfa → Type 0) (ks : List kit_nfa.Nfa) (k : kit_nfa.Nfa) → Each P ks → P k → Each P (ks ++ k ∷ [])
each_push P [] k all own = (own, tt)
each_push P (x ∷ ks) k all own = (all.0, each_push P ks k all.1 own)

-- the number of states and patterns in a draft
pub states_count : (draft : Draft) (ks : List kit_nfa.Nfa) → Has draft ks → length draft.states.items ≡ size_of ks
states_count draft ks has =
    sym (length-our_nodes draft.states.items) ∙ ap length has.nodes ∙ length-nodes_of_all 0 0 ks

starts_count : (draft : Draft) (ks : List kit_nfa.Nfa) → Has draft ks → length draft.starts.items ≡ length ks
starts_count draft ks has = ap length has.starts ∙ length-starts_of 0 ks

raised : {a b : ℕ} → a ≡ b → a ≡ 0 + b
raised e = omega (arith, e)

has_push :
    (ascii : Bool) (old new : Draft) (ks : List kit_nfa.Nfa) (k : kit_nfa.Nfa) → Has old ks → Grows ascii old k new
    → Has new (ks ++ k ∷ [])
has_push ascii old new ks k has grows = record {
  nodes = grows.nodes
      ∙ ap₂ (λ v w. v ++ w) has.nodes
      (ap₂ (λ b p. nodes_of b p k.transitions.items k.states.items) (raised (states_count old ks has))
      (raised (starts_count old ks has)))
      ∙ sym (nodes_of_all_push 0 0 ks k);
  starts = grows.starts
      ∙ ap₂ (λ v w. v ++ (w + k.start) ∷ []) has.starts (raised (states_count old ks has))
      ∙ sym (starts_of_push 0 ks k);
}

-- the room that a pattern takes
left_push : (o : Options) (old new : Draft) (ks : List kit_nfa.Nfa) (k : kit_nfa.Nfa) → IsLeft o old ks →
    table_bytes k ≤ old.room + 24 → new.room ≡ old.room - table_bytes k → IsLeft o new (ks ++ k ∷ [])
left_push o old new ks k left small room =
    let sum = sum_by-append table_bytes ks (k ∷ []) in
    record {
      least = omega (arith, left.least, room, sum);
      most = omega (arith, left.most, small, room, sum, length-append ks (k ∷ []));
    }

-- one more text
pub draft_push : (o : Options) (texts : List (List ℕ)) (text : List ℕ) (old new : Draft) → IsDraftOf o texts old →
    (k : kit_nfa.Nfa) × IsCompiled (config_of o) text k × (table_bytes k ≤ old.room + 24) × Grows o.ascii old k new →
    IsDraftOf o (texts ++ text ∷ []) new
draft_push o texts text old new is (k, compiled, small, grows) = record {
  res = is.res ++ compiled.0 ∷ [];
  meant = meanings_push (config_of o) texts is.res text compiled.0 is.meant compiled.1;
  ks = is.ks ++ k ∷ [];
  nfas = (
    implement_push is.ks is.res k compiled.0 is.nfas.0 compiled.2,
    each_push (λ x. o.ascii ≡ false → HasNoUnicodeLook x) is.ks k is.nfas.1 grows.looks,
  );
  has = has_push o.ascii old new is.ks k is.has grows;
  left = left_push o old new is.ks k is.left small grows.room;
}

-- no text yet
pub draft_empty :
    (o : Options) (draft : Draft) → draft.states.items ≡ [] → draft.starts.items ≡ [] → draft.room ≡ o.size_limit →
    IsDraftOf o [] draft
draft_empty o draft states starts room =
    record {
      res = [];
      meant = tt;
      ks = [];
      nfas = (tt, tt);
      has = record { nodes = ap ours.nodes_of states; starts = starts };
      left = record { least = omega (arith, room); most = omega (arith, room) };
    }

-- one turn over the texts
pub draft_next :
    (o : Options) (texts : List (Bor (List ℕ))) (i : ℕ) (d : Bor (List ℕ)) (old new : Draft) → i < length texts →
    IsDraftOf o (map (λ text. text.now) (take i texts)) old →
    (k : kit_nfa.Nfa) × IsCompiled (config_of o) (get_or texts i d).now k × (table_bytes k ≤ old.room + 24)
    × Grows o.ascii old k new →
    IsDraftOf o (map (λ text. text.now) (take (i + 1) texts)) new
draft_next o texts i d old new inside is more =
    subst (λ v. IsDraftOf o v new)
    (sym (map-append (λ (text : Bor (List ℕ)). text.now) (take i texts) (get_or texts i d ∷ []))
    ∙ ap (map (λ (text : Bor (List ℕ)). text.now))
    (sym (take-suc texts i d inside) ∙ ap (λ v. take v texts) (sym (add-one i))))
    (draft_push o (map (λ text. text.now) (take i texts)) (get_or texts i d).now old new is more)

-- the number of patterns in a draft of texts
meanings_count :
    (config : Config) (texts : List (List ℕ)) (res : List Re) → AreMeanings config texts res → length res ≡ length texts
meanings_count config [] [] are = refl
meanings_count config [] (re ∷ res) are = absurd are
meanings_count config (text ∷ texts) [] are = absurd are
meanings_count config (text ∷ texts) (re ∷ res) are = ap suc (meanings_count config texts res are.1)

pub implement_count : (ks : List kit_nfa.Nfa) (res : List Re) → ImplementAll ks res → length ks ≡ length res
implement_count [] [] are = refl
implement_count [] (re ∷ res) are = absurd are
implement_count (k ∷ ks) [] are = absurd are
implement_count (k ∷ ks) (re ∷ res) are = ap suc (implement_count ks res are.1)

patterns_count :
    (o : Options) (texts : List (List ℕ)) (draft : Draft) (is : IsDraftOf o texts draft) → length is.ks ≡ length texts
patterns_count o texts draft is =
    implement_count is.ks is.res is.nfas.0 ∙ meanings_count (config_of o) texts is.res is.meant

-- the text at which the draft fails, after the texts before it were added
pub first_fault :
    (o : Options) (texts : List (Bor (List ℕ))) (i : ℕ) (d : Bor (List ℕ)) (draft : Draft) (number : ℕ) (fault : Fault)
    →
    i < length texts → IsDraftOf o (map (λ text. text.now) (take i texts)) draft → number ≡ length draft.starts.items →
    IsFaultOf o (get_or texts i d).now fault →
    IsFirstFault o (map (λ text. text.now) texts) (record { number = number; fault = fault })
first_fault o texts i d draft number fault inside is count at =
    let place : number ≡ i =
    count ∙ starts_count draft is.ks is.has
    ∙ patterns_count o (map (λ (text : Bor (List ℕ)). text.now) (take i texts)) draft is
    ∙ length-map (take i texts) (λ (text : Bor (List ℕ)). text.now)
    ∙ length-take-le i texts (omega (arith, inside)) in
    record {
      before = (
        is.res,
        subst (λ v. AreMeanings (config_of o) v is.res)
            (sym (take-map (λ (text : Bor (List ℕ)). text.now) i texts)
            ∙ ap (λ n. take n (map (λ (text : Bor (List ℕ)). text.now) texts)) (sym place))
            is.meant,
      );
      text = (get_or texts i d).now;
      is = ap (λ n. slice_get (map (λ (text : Bor (List ℕ)). text.now) texts) n) place
          ∙ slice_get-map (λ (text : Bor (List ℕ)). text.now) texts i
          ∙ ap (option_map (λ (text : Bor (List ℕ)). text.now)) (slice_get-get_or texts i d inside);
      fault = at;
    }

-- patterns that cannot be joined
pub unjoined :
    (o : Options) (texts : List (List ℕ)) (draft : Draft) (is : IsDraftOf o texts draft) (fault : Fault)
    → IsJoinFault is.ks fault → IsUnjoined o texts (record { number = 0; fault = fault })
unjoined o texts draft is fault why = record {
  res = is.res;
  meant = is.meant;
  ks = is.ks;
  nfas = is.nfas;
  small = omega (arith, is.left.most, patterns_count o texts draft is);
  fault = why;
  number = refl;
}

-- the states of patterns are within the size limit
states_small : (ks : List kit_nfa.Nfa) → 12 * size_of ks ≤ sum_by table_bytes ks
states_small [] = omega arith
states_small (k ∷ ks) = omega (arith, states_small ks, sum_by-cons table_bytes k ks, k.states.ok.0)

abbrev tail_of : List kit_nfa.Nfa → List Node
tail_of ks = Split (starts_of 0 ks) ∷ Split (size_of ks ∷ (size_of ks + 2) ∷ []) ∷ any_byte (size_of ks + 1) ∷ []

states_within : (o : Options) (texts : List (List ℕ)) (draft : Draft) (a : Automaton) (is : IsDraftOf o texts draft) →
    engine_of a LeftmostFirst ≡ joined_engine o.utf8 is.ks → IsWithinLimit o texts a
states_within o texts draft a is same =
    let states : length a.states ≡ length (nodes_of_all 0 0 is.ks ++ tail_of is.ks) =
    sym (length-our_nodes a.states) ∙ ap (λ (e : Engine). length e.nfa.nodes) same in
    omega (
      arith,
      states,
      length-append (nodes_of_all 0 0 is.ks) (tail_of is.ks),
      length-nodes_of_all 0 0 is.ks,
      states_small is.ks,
      is.left.most,
      patterns_count o texts draft is,
    )

-- the states are within the size limit also if unions are merged
merged_limit :
    (o : Options) (texts : List (List ℕ)) (a b : Automaton) → IsWithinLimit o texts a → IsMergedWithin o.size_limit a b
    → IsWithinLimit o texts b
merged_limit o texts a b within into =
    ⊎_elim (λ (l : 12 * length b.states ≤ o.size_limit). omega (arith, l))
    (λ (e : b ≡ a). subst (λ v. IsWithinLimit o texts v) (sym e) within) into.small

-- flattening chains of unions keeps the number of states
flat_limit :
    (o : Options) (texts : List (List ℕ)) (a b : Automaton) → IsWithinLimit o texts a → IsFlattenedNfa a b
    → IsWithinLimit o texts b
flat_limit o texts a b within into =
    let same : length b.states ≡ length a.states =
    sym (length-our_nodes b.states) ∙ (into.flat.count ∙ length-our_nodes a.states) in
    subst (λ v. 12 * v ≤ o.size_limit + 24 * length texts + 36) (sym same) within

-- and if the lazy loop is left out
pub within_limit :
    (o : Options) (texts : List (List ℕ)) (draft : Draft) (a b : Automaton) (is : IsDraftOf o texts draft) →
    engine_of a LeftmostFirst ≡ joined_engine o.utf8 is.ks → IsSimplified o.size_limit a b → IsWithinLimit o texts b
within_limit o texts draft a b is same into =
    let nodes : length (ours.nodes_of b.states) ≡ length (ours.nodes_of into.merged.states) =
    ap (λ (n : Nfa). length n.nodes) (nfa_same into.merged b into.anchors) in
    let count : length b.states ≡ length into.merged.states =
    sym (length-our_nodes b.states) ∙ nodes ∙ length-our_nodes into.merged.states in
    subst (λ v. 12 * v ≤ o.size_limit + 24 * length texts + 36) (sym count)
    (merged_limit o texts into.flat into.merged
    (flat_limit o texts a into.flat (states_within o texts draft a is same) into.flattens) into.merges)

-- the three states that join the patterns
pub joined_nodes : (s0 s1 s2 s3 : List State) (x y z : State) (n1 n2 n3 : Node) →
    s1 ≡ s0 ++ x ∷ [] → s2 ≡ s1 ++ y ∷ [] → s3 ≡ s2 ++ z ∷ [] → ours.node_of x ≡ n1 → ours.node_of y ≡ n2
    → ours.node_of z ≡ n3 →
    ours.nodes_of s3 ≡ ours.nodes_of s0 ++ n1 ∷ n2 ∷ n3 ∷ []
joined_nodes s0 s1 s2 s3 x y z n1 n2 n3 e1 e2 e3 is1 is2 is3 =
    ap ours.nodes_of e3 ∙ our_nodes s2 z
    ∙ ap₂ (λ v w. v ++ w ∷ []) (ap ours.nodes_of e2 ∙ our_nodes s1 y
    ∙ ap₂ (λ v w. v ++ w ∷ []) (ap ours.nodes_of e1 ∙ our_nodes s0 x ∙ ap (λ v. ours.nodes_of s0 ++ v ∷ []) is1) is2)
    is3
    ∙ append_assoc (ours.nodes_of s0 ++ n1 ∷ []) (n2 ∷ []) (n3 ∷ [])
    ∙ append_assoc (ours.nodes_of s0) (n1 ∷ []) (n2 ∷ n3 ∷ [])

-- the nodes of the states that join a draft
pub all_nodes : (draft : Draft) (ks : List kit_nfa.Nfa) → Has draft ks →
    ours.nodes_of draft.states.items
    ++ Split draft.starts.items
    ∷ Split (length draft.states.items ∷ (length draft.states.items + 2) ∷ [])
    ∷ any_byte (length draft.states.items + 1) ∷ []
    ≡ (joined_nfa ks).nodes
all_nodes draft ks has =
    ap₂ (λ v w. v ++ Split w ∷ Split (length draft.states.items ∷ (length draft.states.items + 2) ∷ [])
    ∷ any_byte (length draft.states.items + 1) ∷ []) has.nodes has.starts
    ∙ ap (λ v. nodes_of_all 0 0 ks ++ Split (starts_of 0 ks) ∷ Split (v ∷ (v + 2) ∷ []) ∷ any_byte (v + 1) ∷ [])
    (states_count draft ks has)

-- the NFA that is built from them
pub finished : (draft : Draft) (ks : List kit_nfa.Nfa) (a : Automaton) (utf8 : Bool) → Has draft ks →
    ours.nodes_of a.states
    ≡ ours.nodes_of draft.states.items
    ++ Split draft.starts.items
    ∷ Split (length draft.states.items ∷ (length draft.states.items + 2) ∷ [])
    ∷ any_byte (length draft.states.items + 1) ∷ [] →
    a.start_pattern ≡ draft.starts.items → a.start_anchored ≡ length draft.states.items →
    a.start_unanchored ≡ length draft.states.items + 1
    → a.flags ≡ record { utf8 = utf8; reverse = false; line_terminator = 10 } →
    a.keeps_unions ≡ false → engine_of a LeftmostFirst ≡ joined_engine utf8 ks
finished draft ks a utf8 has nodes starts anchored unanchored flags dropped =
    ap₂ (λ v (f : Flags). record {
      nfa = record { nodes = v; terminator = f.line_terminator; reverse = f.reverse; keeps_unions = a.keeps_unions };
      anchored = a.start_anchored;
      unanchored = a.start_unanchored;
      starts = a.start_pattern;
      utf8 = f.utf8;
      kind = LeftmostFirst;
    }) (nodes ∙ all_nodes draft ks has) flags
    ∙ ap (λ v. record {
      nfa = record { nodes = (joined_nfa ks).nodes; terminator = 10; reverse = false; keeps_unions = v };
      anchored = a.start_anchored;
      unanchored = a.start_unanchored;
      starts = a.start_pattern;
      utf8 = utf8;
      kind = LeftmostFirst;
    }) dropped
    ∙ ap₂ (λ v w.
    record {
      nfa = joined_nfa ks;
      anchored = v;
      unanchored = w;
      starts = a.start_pattern;
      utf8 = utf8;
      kind = LeftmostFirst;
    })
    (anchored ∙ count) (unanchored ∙ ap (λ v. v + 1) count)
    ∙ ap (λ v.
    record {
      nfa = joined_nfa ks;
      anchored = size_of ks;
      unanchored = size_of ks
          + 1;
      starts = v;
      utf8 = utf8;
      kind = LeftmostFirst;
    })
    (starts ∙ has.starts)
  where
    count : length draft.states.items ≡ size_of ks
    count = states_count draft ks has

use Rattle.std.proofs.Common.{rules, arith, ◌<◌, ◌^◌, ◌/◌, ◌∙◌, get_or}
use Rattle.automata_base.proofs.Powersets.Code.Groups.{split_bytes}
use Rattle.automata_determinize.proofs.Powersets.Code.Groups.{front_last_of, front_more_of, front_none}
use Rattle.automata_determinize.proofs.determinize.read.+groups_in.Goals as goal

pub returns-then-first-lt128 : goal.returns-then-first-lt128
returns-then-first-lt128 t c = λ n tail f.
    let e = split_bytes c.args.bytes.now c.in-len1-up.len_at_least in
    let r = front_last_of c.args.bytes.now (get_or c.args.bytes.now 0 0) n _ tail e f c.if-first-lt128.true in
    (c.from.ensures ∙ r.0, r.1)

pub groups_in-high-requires : goal.groups_in-high-requires
groups_in-high-requires t c =
    let e = split_bytes c.args.bytes.now c.in-len1-up.len_at_least in
    let r =
    front_more_of c.args.bytes.now (get_or c.args.bytes.now 0 0) c.requires.0 _ c.requires.1 e c.requires.2
    c.if-first-lt128.false in
    (search rules, (c.requires.0 / 128, c.requires.1, r.0))

pub overflow_mul-result : goal.overflow_mul-result
overflow_mul-result t c =
    let e = split_bytes c.args.bytes.now c.in-len1-up.len_at_least in
    let r =
    front_more_of c.args.bytes.now (get_or c.args.bytes.now 0 0) c.requires.0 _ c.requires.1 e c.requires.2
    c.if-first-lt128.false in
    let h = c.groups_in-high.ensures (c.requires.0 / 128) c.requires.1 r.0 in
    let b : c.requires.0 < 2 ^ 35 = c.requires.2.1 in
    omega (arith, h.0)

pub overflow_add-result : goal.overflow_add-result
overflow_add-result t c =
    let e = split_bytes c.args.bytes.now c.in-len1-up.len_at_least in
    let r =
    front_more_of c.args.bytes.now (get_or c.args.bytes.now 0 0) c.requires.0 _ c.requires.1 e c.requires.2
    c.if-first-lt128.false in
    let h = c.groups_in-high.ensures (c.requires.0 / 128) c.requires.1 r.0 in
    let b : c.requires.0 < 2 ^ 35 = c.requires.2.1 in
    omega (arith, h.0, c.from-in-len1-up.ensures, r.1)

pub returns-in-empty : goal.returns-in-empty
returns-in-empty t c = λ n tail f. absurd (front_none c.args.bytes.now n tail c.in-empty.len_below f)

pub returns-else-first-lt128 : goal.returns-else-first-lt128
returns-else-first-lt128 t c = λ n tail f.
    let e = split_bytes c.args.bytes.now c.in-len1-up.len_at_least in
    let r = front_more_of c.args.bytes.now (get_or c.args.bytes.now 0 0) n _ tail e f c.if-first-lt128.false in
    let h = c.groups_in-high.ensures (n / 128) tail r.0 in
    (omega (arith, h.0, c.from-in-len1-up.ensures, r.1), h.1)

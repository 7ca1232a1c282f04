use Rattle.std.proofs.Common.{◌≡◌, ◌≢◌, ℕ, ◌+◌, ◌-◌, ◌≤◌, Bool, cond, true, false, List, take, drop, ap, ◌∙◌, sym, arith, zero-add, subst}
use Rattle.mac_keys.proofs.Whole.{ends_at, to_the_end, found_here, search_on, found_last, none_left}
use Rattle.mac_keys.proofs.change.find_line.Goals as goal
use Rattle.mac_keys.proofs.change.find_line.Goals.{else-left-eq0-2-via-then-left-eq0-2+else-is_line_of-2, else-left-eq0-2-via-else-left-eq0-2}

-- the range of a line, as it is taken of the rest of the text
line_is : (text rest : List ℕ) (start n : ℕ) → rest ≡ drop start text → take (start + n - start) (drop start text) ≡ take n rest
line_is text rest start n is =
    ap (λ k. take k (drop start text)) (let e : start + n - start ≡ n = omega arith in e)
    ∙ ap (take n) (sym is)

one_less : (named : Bool) (left : ℕ) → true ≡ named → left ≢ 0 → cond named 1 0 + (left - 1) ≡ left
one_less named left is some = ap (λ b. cond b 1 0 + (left - 1)) (sym is) ∙ (let e : 1 + (left - 1) ≡ left = omega arith in e)

none_less : (named : Bool) (left : ℕ) → false ≡ named → cond named 1 0 + left ≡ left
none_less named left is = ap (λ b. cond b 1 0 + left) (sym is) ∙ zero-add left

not_more : (named : Bool) (left : ℕ) → false ≡ named → cond named 1 0 ≤ left
not_more named left is = subst (λ (b : Bool). cond b 1 0 ≤ left) is (omega arith)

one_or_none : (named : Bool) (left : ℕ) → left ≢ 0 → cond named 1 0 ≤ left
one_or_none true left some = omega arith
one_or_none false left some = omega arith

pub returns-then-left-eq0 : goal.returns-then-left-eq0
returns-then-left-eq0 c =
    let is = to_the_end c.args.text.now c.loop-length.start in
    let same = line_is c.args.text.now _ c.loop-length.start c.in-Some.length is in
    let ends = ends_at c.args.text.now c.loop-length.start c.in-Some.length _ _ is same c.loop-length.invariant.within c.in-Some.ensures.within c.in-Some.ensures.feed.0 c.in-Some.ensures.feed.1 in
    found_here _ _ _ _ _ _ _ c.loop-length.invariant c.if-left-eq0.true ends (sym c.if-is_line_of.ensures) (omega arith)

pub loop-length-preserved-else-left-eq0 : goal.loop-length-preserved-else-left-eq0
loop-length-preserved-else-left-eq0 c =
    let is = to_the_end c.args.text.now c.loop-length.start in
    let same = line_is c.args.text.now _ c.loop-length.start c.in-Some.length is in
    let ends = ends_at c.args.text.now c.loop-length.start c.in-Some.length _ _ is same c.loop-length.invariant.within c.in-Some.ensures.within c.in-Some.ensures.feed.0 c.in-Some.ensures.feed.1 in
    search_on _ _ _ _ _ _ _ _ c.loop-length.invariant ends (one_less _ _ c.if-is_line_of.ensures c.if-left-eq0.false)

pub loop-length-preserved : goal.loop-length-preserved
loop-length-preserved c =
    let is = to_the_end c.args.text.now c.loop-length.start in
    let same = line_is c.args.text.now _ c.loop-length.start c.in-Some.length is in
    let ends = ends_at c.args.text.now c.loop-length.start c.in-Some.length _ _ is same c.loop-length.invariant.within c.in-Some.ensures.within c.in-Some.ensures.feed.0 c.in-Some.ensures.feed.1 in
    search_on _ _ _ _ _ _ _ _ c.loop-length.invariant ends (none_less _ _ c.if-is_line_of.ensures)

pub returns-then-is_line_of-2 : goal.returns-then-is_line_of-2
returns-then-is_line_of-2 c =
    found_last _ _ _ _ _ _ (to_the_end c.args.text.now c.loop-length.start) c.loop-length.invariant c.if-left-eq0-2.true c.in_default.ensures.feed (sym c.if-is_line_of-2.ensures)

pub returns : goal.returns
returns c =
    none_left _ _ _ _ _ _ (to_the_end c.args.text.now c.loop-length.start) c.loop-length.invariant c.in_default.ensures.feed
    (elim c.else-left-eq0-2.branch [
      | else-left-eq0-2-via-then-left-eq0-2+else-is_line_of-2 w ↦ not_more _ _ w.if-is_line_of-2.ensures
      | else-left-eq0-2-via-else-left-eq0-2 w ↦ one_or_none _ _ w.if-left-eq0-2.false
    ])

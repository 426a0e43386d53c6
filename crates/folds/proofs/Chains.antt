-- What a chain over the numbers below n gives, where its closure computes p: the fold of p. Assumes nothing.
use mathlib.Core.Path.{◌≡◌, refl, sym, ap, subst, ◌∙◌}
use mathlib.Core.Bool.{Bool, true, false}
use Prim.Native.Nat.{ℕ, zero, suc, ◌+◌, ◌≤◌, ◌<◌}
use native.Mathlib.Omega.{arith}
use denote.Ref.{Bor}
use denote.Param.Members.{Mut, Called}
use Rattle.std.specs.Bool.{MatchBool, IsTrue}
use Rattle.std.specs.declared.option.Option.{Option}
use Rattle.std.specs.declared.option.Option.TheVariants.{None, Some}
use Rattle.std.specs.declared.ops.Range.{Range}
use Rattle.std.specs.Option.{MatchOption, option_map, unwrap_or, IsSomeAnd, IfSome}
use Rattle.std.specs.Prelude.{List, [], ◌∷◌, length, slice_get}
use Rattle.std.specs.List.{fold, FoldsTo}
use Rattle.std.specs.Fn.{CalledAt}
use Rattle.std.specs.declared.iter.Filter.{Filter}
use Rattle.std.specs.Iterator.Adapters.{filter_source, filter_callee, filter_steps}
use Rattle.std.specs.Iterator.{Drains, Yields}
use Rattle.std.specs.Iterator.Runs.{Run, SomeRun, WholeRun, EachRunFrom, CallKeepsClosure, AllItemsGive, AnyItemGives, NoItemPasses, EndsAtFirstPassing, IsFirstToGive, IsMapRun}
use Rattle.std.proofs.iter.runs.Made.{at-is}
use Rattle.std.proofs.iter.Yields.{nat_range_steps}
use Rattle.std.specs.declared.slice.Iter.{Iter}
use Rattle.std.specs.Slice.Iter.{iter_rest, iter_steps}
use Rattle.std.specs.List.{slice_index}
use Rattle.std.proofs.iter.runs.Sources.{range_runs, iter_runs}
use Rattle.folds.specs.Fold.{every, some, count, first, total, Finds}
use Rattle.folds.proofs.Every.{every_of, every_fails}
use Rattle.folds.proofs.Some.{some_of}
use Rattle.folds.proofs.Count.{count_none, count_no, count_yes}
use Rattle.folds.proofs.First.{first_found, first_none}
use Rattle.folds.proofs.Total.{total_none, total_grows}

pub finds_or : (p : ℕ → Bool) (n : ℕ) (o : Option ℕ) → Finds p n o → unwrap_or o n ≡ first p n
finds_or p n None e = sym e
finds_or p n (Some i) e = e.1

some_none : (p : ℕ → Bool) (n : ℕ) → ((i : ℕ) → i < n → p i ≡ false) → some p n ≡ false
unfolding some
some_none p zero h = refl
some_none p (suc n) h = rw (some_none p n (λ i w. h i (omega arith)), h n (omega arith))

-- ---- a run, place by place: what it gives at place k is tied by R to k, and a whole run gives n items

abbrev pub Reads : {S A : Type 0} {steps : S → Option A → S → Type 0} → Run steps → ℕ → (ℕ → A → Type 0) → Type 0
Reads u n R = (u.whole ≡ true → u.len ≡ n) × ((k : ℕ) → IfSome (u.at k) (λ x. (k < n) × R k x))

range_reads : (s : Range ℕ) → s.start ≡ 0 → (u : Run nat_range_steps) → u.from ≡ s → Reads u s.end (λ k x. x ≡ k)
range_reads s z u e =
    let c = range_runs u u.seen in
    let a : u.from.start ≡ 0 = ap (λ (k : Range ℕ). k.start) e ∙ z in
    let b : u.from.end ≡ s.end = ap (λ (k : Range ℕ). k.end) e in
    (λ w. omega (arith, c.1 w), λ k. at_place k (u.at k) (c.2 k) a b)
  where
    at_place : (k : ℕ) (o : Option ℕ) → IfSome o (λ x. (x ≡ u.from.start + k) × (x < u.from.end)) → u.from.start ≡ 0 → u.from.end ≡ s.end → IfSome o (λ x. (k < s.end) × (x ≡ k))
    at_place k None m a b = tt
    at_place k (Some x) m a b = (omega (arith, m.0, m.1), omega (arith, m.0))

module _ {S A : Type 0} {steps : S → Option A → S → Type 0} (u : Run steps) where
  item : (xs : List A) (k : ℕ) → k < length xs → (x : A) × (slice_get xs k ≡ Some x)
  item [] k l = absurd (omega arith)
  item (x ∷ xs) zero l = (x, refl)
  item (x ∷ xs) (suc k) l = item xs k (omega arith)

  module _ (R : ℕ → A → Type 0) (n : ℕ) (reads : Reads u n R) where
    read_at : (k : ℕ) → k < u.len → (x : A) × (u.at k ≡ Some x) × R k x
    read_at k l =
        let i = item u.items k (omega (arith, u.long)) in
        let e : u.at k ≡ Some i.0 = at-is u k ∙ i.1 in
        (i.0, e, (subst (λ o. IfSome o (λ x. (k < n) × R k x)) e (reads.1 k)).1)

    module _ {F : Type 0} (g : Mut F (A × Unit {0}) Bool) (f : F) (p : ℕ → Bool) (keeps : CallKeepsClosure g f)
        (says : (k : ℕ) (x : A) (b : Bool) (f' : F) → k < n → R k x → Called g f (x, tt) b f' → b ≡ p k) where
      -- each item below place i answered r
      each_says : (r : Bool) (k : ℕ) → k < n → k < u.len → IfSome (u.at k) (λ x. Called g f (x, tt) r f) → p k ≡ r
      each_says r k w l h = let x = read_at k l in sym (says k x.0 r f w x.2 (subst (λ o. IfSome o (λ y. Called g f (y, tt) r f)) x.1 h))

      one_says : (r : Bool) (k : ℕ) → IsSomeAnd (u.at k) (λ x. Called g f (x, tt) r f) → (k < n) × (p k ≡ r)
      one_says r k h = go (u.at k) h (reads.1 k)
        where
          go : (o : Option A) → IsSomeAnd o (λ x. Called g f (x, tt) r f) → IfSome o (λ x. (k < n) × R k x) → (k < n) × (p k ≡ r)
          go None a b = absurd a
          go (Some x) a b = (b.0, sym (says k x r f b.0 b.1 a))

      all_by : (r : Bool) → MatchBool r (IsTrue u.whole × AllItemsGive u g f true) (AnyItemGives u g f false) → r ≡ every p n
      all_by true (whole, all) = sym (every_of p n (λ i w. each_says true i w (omega (arith, reads.0 whole)) (all keeps i)))
      all_by false any = let h = any keeps in let a = one_says false h.0 h.2 in sym (every_fails p n h.0 a.0 a.1)

      any_by : (r : Bool) → MatchBool r (AnyItemGives u g f true) (IsTrue u.whole × AllItemsGive u g f false) → r ≡ some p n
      any_by false (whole, all) = sym (some_none p n (λ i w. each_says false i w (omega (arith, reads.0 whole)) (all keeps i)))
      any_by true any = let h = any keeps in let a = one_says true h.0 h.2 in sym (some_of p n h.0 a.0 a.1)

      position_by : (o : Option ℕ) → MatchOption o (IsTrue u.whole × AllItemsGive u g f false) (λ i. (u.len ≡ i + 1) × IsFirstToGive u g f true false i) → Finds p n o
      position_by None (whole, all) = first_none p n (λ i w. each_says false i w (omega (arith, reads.0 whole)) (all keeps i))
      position_by (Some i) (l, h) =
          let c = h keeps in
          let a = one_says true i c.0 in
          (a.0, sym (first_found p n i a.0 (λ k w. (one_says false k (c.1 k w)).1) a.1))

-- ---- chains over the numbers below n

module _ {F : Type 0} (g : Mut F (ℕ × Unit {0}) Bool) (f : F) (p : ℕ → Bool) (s : Range ℕ) where
  -- `.all(|i| ..)`: returns c = all_every _ _ (p ..) _ _ refl (search rules) (search rules) c.all.ensures.runs
  pub all_every : (r : Bool) → s.start ≡ 0 → CallKeepsClosure g f
      → ((i : ℕ) (b : Bool) (f' : F) → i < s.end → Called g f (i, tt) b f' → b ≡ p i)
      → SomeRun nat_range_steps s (λ u. MatchBool r (IsTrue u.whole × AllItemsGive u g f true) (AnyItemGives u g f false))
      → r ≡ every p s.end
  all_every r z keeps says (u, e, h) = all_by u (λ k x. x ≡ k) s.end (range_reads s z u e) g f p keeps (λ k x b f' w q c. says k b f' w (subst (λ v. Called g f (v, tt) b f') q c)) r h

-- the closure takes a reference to the number
module _ {F : Type 0} (g : Mut F (Bor ℕ × Unit {0}) Bool) (f : F) (p : ℕ → Bool) (n : ℕ) (keeps : CallKeepsClosure g f)
    (says : (i : Bor ℕ) (b : Bool) (f' : F) → i.now < n → Called g f (i, tt) b f' → b ≡ p i.now) where
  told : (x : ℕ) (b : Bool) (h h' : F) → h ≡ f → x < n → CalledAt g h x b h' → (h' ≡ f) × (p x ≡ b)
  told x b h h' e w c =
      let d : Called g f (c.shown, tt) b h' = subst (λ v. Called g v (c.shown, tt) b h') e c.called in
      (keeps (c.shown, tt) b h' d, ap p (sym c.shows) ∙ sym (says c.shown b h' (omega (arith, c.shows)) d))

  -- the numbers that were passed over
  passed : (xs : List ℕ) (a t : Range ℕ) (h j : F) → h ≡ f → a.end ≡ n → a.start ≤ n → Yields nat_range_steps a xs t → FoldsTo (λ q x q'. CalledAt g q x false q') h xs j
      → (j ≡ f) × (t.end ≡ n) × (t.start ≤ n) × (count p t.start ≡ count p a.start)
  passed [] a t h j e z l y c = (sym c ∙ e, ap (λ (k : Range ℕ). k.end) (sym y) ∙ z, subst (λ (k : Range ℕ). k.start ≤ n) y l, ap (λ (k : Range ℕ). count p k.start) (sym y))
  passed (x ∷ xs) a t h j e z l y c =
      let m = told x false h c.0 e (omega (arith, z, y.1.1.0, y.1.1.1)) c.1 in
      let r = passed xs y.0 t c.0 j m.0 (y.1.0 ∙ z) (omega (arith, z, y.1.1.0, y.1.1.2)) y.2 c.2 in
      (r.0, r.1, r.2, r.3 ∙ ap (count p) y.1.1.2 ∙ count_no p a.start (ap p (sym y.1.1.1) ∙ m.1))

  -- the numbers that a filter gave
  sifted : (xs : List ℕ) (a t : Filter (Range ℕ) F) → filter_callee a ≡ f → (filter_source a).end ≡ n → (filter_source a).start ≤ n → Yields (filter_steps nat_range_steps g) a xs t
      → (filter_callee t ≡ f) × ((filter_source t).end ≡ n) × ((filter_source t).start ≤ n) × (length xs + count p (filter_source a).start ≡ count p (filter_source t).start)
  sifted [] a t e z l y =
      (ap filter_callee (sym y) ∙ e, ap (λ (k : Filter (Range ℕ) F). (filter_source k).end) (sym y) ∙ z, subst (λ (k : Filter (Range ℕ) F). (filter_source k).start ≤ n) y l, omega (arith, ap (λ (k : Filter (Range ℕ) F). count p (filter_source k).start) y))
  sifted (x ∷ xs) a t e z l (b, (zs, h, (m, ys, st), cs, c), more) =
      let q = passed zs (filter_source a) m (filter_callee a) h e z l ys cs in
      let k = told x true h (filter_callee b) q.0 (omega (arith, q.1, st.1.0, st.1.1)) c in
      let r = sifted xs b t k.0 (st.0 ∙ q.1) (omega (arith, q.1, st.1.0, st.1.2)) more in
      (r.0, r.1, r.2, omega (arith, r.3, q.3, count_yes p m.start (ap p (sym st.1.1) ∙ k.1), ap (count p) st.1.2))

  counted : (a : Filter (Range ℕ) F) (xs : List ℕ) → filter_callee a ≡ f → (filter_source a).end ≡ n → (filter_source a).start ≡ 0 → Drains (filter_steps nat_range_steps g) a xs → length xs ≡ count p n
  counted a xs e z o (u, (t, ys, (zs, h, (m, vs, st), cs, c))) =
      let r = sifted xs a t e z (omega (arith, o)) ys in
      let q = passed zs (filter_source t) m (filter_callee t) h r.0 r.1 r.2 vs cs in
      let w : m.start ≡ n = omega (arith, q.1, q.2, st.1.0) in
      omega (arith, r.3, q.3, ap (count p) w, ap (count p) o, count_none p)

  found : (o : Option ℕ) (u : Run nat_range_steps) → Reads u n (λ k x. x ≡ k) → MatchOption o (IsTrue u.whole × NoItemPasses u g f) (EndsAtFirstPassing u g f) → Finds p n o
  found None u reads (whole, all) = first_none p n (λ i w.
      let x = read_at u (λ k x. x ≡ k) n reads i (omega (arith, reads.0 whole)) in
      ap p (sym x.2) ∙ (told x.0 false f f refl (omega (arith, x.2)) (subst (λ o. IfSome o (λ y. CalledAt g f y false f)) x.1 (all keeps i))).1)
  found (Some x) u reads (i, l, at, h) =
      let c = h keeps in
      let k = subst (λ o. IfSome o (λ y. (i < n) × (y ≡ i))) at (reads.1 i) in
      (omega (arith, k.0, k.1), k.1 ∙ sym (first_found p n i k.0 (λ j w. before j (omega (arith, k.0)) (u.at j) (reads.1 j) (c.1 j w)) (ap p (sym k.1) ∙ (told x true f f refl (omega (arith, k.0, k.1)) c.0).1)))
    where
      before : (j : ℕ) → j < n → (o : Option ℕ) → IfSome o (λ y. (j < n) × (y ≡ j)) → IsSomeAnd o (λ y. CalledAt g f y false f) → p j ≡ false
      before j w None a b = absurd b
      before j w (Some y) a b = ap p (sym a.1) ∙ (told y false f f refl (omega (arith, a.0, a.1)) b).1

module _ {F : Type 0} (g : Mut F (Bor ℕ × Unit {0}) Bool) (f : F) (p : ℕ → Bool) (s : Range ℕ) where
  -- `.filter(|i| ..).count()`: returns c = count_filter _ _ (p ..) _ _ _ refl (search rules) (search rules) c.filter.ensures.source c.filter.ensures.closure c.count.ensures.ran
  pub count_filter : (a : Filter (Range ℕ) F) (r : ℕ) → s.start ≡ 0 → CallKeepsClosure g f
      → ((i : Bor ℕ) (b : Bool) (f' : F) → i.now < s.end → Called g f (i, tt) b f' → b ≡ p i.now)
      → filter_source a ≡ s → filter_callee a ≡ f
      → (xs : List ℕ) × Drains (filter_steps nat_range_steps g) a xs × (r ≡ length xs)
      → r ≡ count p s.end
  count_filter a r z keeps says src fun (xs, d, e) =
      e ∙ counted g f p s.end keeps says a xs fun (ap (λ (k : Range ℕ). k.end) src) (ap (λ (k : Range ℕ). k.start) src ∙ z) d

  -- `.find(|i| ..)`: find_first _ _ (p ..) _ _ refl (search rules) (search rules) c.find.ensures.runs; and with `.unwrap_or(n)`: returns c = c.unwrap_or.ensures ∙ finds_or _ _ _ (find_first ..)
  pub find_first : (o : Option ℕ) → s.start ≡ 0 → CallKeepsClosure g f
      → ((i : Bor ℕ) (b : Bool) (f' : F) → i.now < s.end → Called g f (i, tt) b f' → b ≡ p i.now)
      → SomeRun nat_range_steps s (λ u. MatchOption o (IsTrue u.whole × NoItemPasses u g f) (EndsAtFirstPassing u g f))
      → Finds p s.end o
  find_first o z keeps says (u, e, h) = found g f p s.end keeps says o u (range_reads s z u e) h

-- a sum of what h gives from i on
sum_up : (h : ℕ → ℕ) (xs : List ℕ) (i n : ℕ) → i + length xs ≡ n → ((k : ℕ) → IfSome (slice_get xs k) (λ x. x ≡ h (i + k))) → fold (λ (a x : ℕ). a + x) (total h i) xs ≡ total h n
unfolding total
sum_up h [] i n e up = let q : i ≡ n = omega (arith, e) in ap (total h) q
sum_up h (x ∷ xs) i n e up =
    let o : i + 0 ≡ i = omega arith in
    let here : total h i + x ≡ total h (suc i) = omega (arith, up 0, ap h o) in
    ap (λ a. fold (λ (a x : ℕ). a + x) a xs) here ∙ sum_up h xs (suc i) n (omega arith) (λ k. later k (slice_get xs k) (up (suc k)))
  where
    later : (k : ℕ) (o : Option ℕ) → IfSome o (λ y. y ≡ h (i + suc k)) → IfSome o (λ y. y ≡ h (suc i + k))
    later k None m = tt
    later k (Some y) m = let q : i + suc k ≡ suc i + k = omega arith in m ∙ ap h q

module _ {F : Type 0} (g : Mut F (ℕ × Unit {0}) ℕ) (f : F) (h : ℕ → ℕ) (s : Range ℕ) (z : s.start ≡ 0) (keeps : CallKeepsClosure g f)
    (says : (i x : ℕ) (f' : F) → i < s.end → Called g f (i, tt) x f' → x ≡ h i) where
  mapped : {S : Type 0} {steps : S → Option ℕ → S → Type 0} (p : Run steps) (q : Run nat_range_steps) → q.from ≡ s → IsMapRun p q g f → (p.len ≤ s.end) × (p.whole ≡ true → p.len ≡ s.end) × (fold (λ (a x : ℕ). a + x) 0 p.items ≡ total h p.len)
  mapped p q e m =
      let c = range_reads s z q e in
      let o = range_runs q q.seen in
      (omega (arith, m.1, o.0, ap (λ (k : Range ℕ). k.end) e), (λ w. m.1 ∙ c.0 (m.0 ∙ w)), ap (λ a. fold (λ (a x : ℕ). a + x) a p.items) (sym (total_none h)) ∙ sum_up h p.items 0 p.len (omega (arith, p.long)) (λ k. subst (λ o. IfSome o (λ x. x ≡ h (0 + k))) (at-is p k) (here k (p.at k) (q.at k) ((m.2 keeps).1 k) (c.1 k))))
    where
      inner : (k y : ℕ) (o : Option ℕ) → IsSomeAnd o (λ x. Called g f (x, tt) y f) → IfSome o (λ x. (k < s.end) × (x ≡ k)) → y ≡ h k
      inner k y None a b = absurd a
      inner k y (Some x) a b = says x y f (omega (arith, b.0, b.1)) a ∙ ap h b.1

      here : (k : ℕ) (o o' : Option ℕ) → IfSome o (λ y. IsSomeAnd o' (λ x. Called g f (x, tt) y f)) → IfSome o' (λ x. (k < s.end) × (x ≡ k)) → IfSome o (λ y. y ≡ h (0 + k))
      here k None o' a b = tt
      here k (Some y) o' a b = let q : k ≡ 0 + k = omega arith in inner k y o' a b ∙ ap h q

module _ {F : Type 0} (g : Mut F (ℕ × Unit {0}) ℕ) (f : F) (h : ℕ → ℕ) (s : Range ℕ) {S : Type 0} {steps : S → Option ℕ → S → Type 0} (a : S) where
  -- `.map(|i| ..).sum()`: returns c = sum_total _ _ (h ..) _ _ _ refl (search rules) (search rules) c.map.ensures.runs (c.sum.ensures.runs tt)
  pub sum_total : (r : ℕ) → s.start ≡ 0 → CallKeepsClosure g f
      → ((i x : ℕ) (f' : F) → i < s.end → Called g f (i, tt) x f' → x ≡ h i)
      → EachRunFrom steps a (λ p. SomeRun nat_range_steps s (λ q. IsMapRun p q g f))
      → WholeRun steps a (λ p. r ≡ fold (λ (a x : ℕ). a + x) 0 p.items)
      → r ≡ total h s.end
  sum_total r z keeps says maps (p, e, w, k) =
      let q = maps p p.seen e in
      let m = mapped g f h s z keeps says p q.0 q.1 q.2 in
      k ∙ m.2 ∙ ap (total h) (m.1 w)

  -- and what it requires, where the whole sum is below b: sum-requires-clause-fits c = sum_fits _ _ (h ..) _ _ _ refl (search rules) (search rules) c.map.ensures.runs BOUND
  pub sum_fits : (b : ℕ) → s.start ≡ 0 → CallKeepsClosure g f
      → ((i x : ℕ) (f' : F) → i < s.end → Called g f (i, tt) x f' → x ≡ h i)
      → EachRunFrom steps a (λ p. SomeRun nat_range_steps s (λ q. IsMapRun p q g f))
      → total h s.end < b
      → EachRunFrom steps a (λ p. fold (λ (a x : ℕ). a + x) 0 p.items < b)
  sum_fits b z keeps says maps l p t e =
      let q = maps p p.seen e in
      let m = mapped g f h s z keeps says p q.0 q.1 q.2 in
      omega (arith, m.2, total_grows h p.len s.end m.0)

-- ---- chains over the elements of a slice: `xs.iter()`

module _ {F : Type 0} (g : Mut F (Bor ℕ × Unit {0}) Bool) (f : F) (p : ℕ → Bool) (xs : List ℕ) (a : Iter ℕ) where
  within : (ys : List (Bor ℕ)) (k : ℕ) (x : Bor ℕ) → slice_get ys k ≡ Some x → k < length ys
  within [] k x e = absurd (subst (λ o. MatchOption o (Unit {0}) (λ y. ⊥)) e tt)
  within (y ∷ ys) zero x e = omega arith
  within (y ∷ ys) (suc k) x e = omega (arith, within ys k x e)

  slice_reads : iter_rest a ≡ xs → (u : Run (iter_steps {A = ℕ})) → u.from ≡ a → Reads u (length xs) (λ k x. x.now ≡ slice_index xs k)
  slice_reads r u e =
      let c = iter_runs u u.seen in
      let same : iter_rest u.from ≡ xs = ap iter_rest e ∙ r in
      let long : length (iter_rest u.from) ≡ length xs = ap length same in
      ((λ w. c.1 w ∙ long), λ k. at_place k (u.at k) refl (λ l. c.2 k 0 l ∙ ap (λ z. Some (slice_index z k)) same) (omega (arith, c.0, long)))
    where
      at_place : (k : ℕ) (o : Option (Bor ℕ)) → u.at k ≡ o → (k < u.len → option_map (λ y. y.now) (u.at k) ≡ Some (slice_index xs k)) → u.len ≤ length xs → IfSome o (λ x. (k < length xs) × (x.now ≡ slice_index xs k))
      at_place k None q h l = tt
      at_place k (Some x) q h l =
          let w : k < u.len = omega (arith, within u.items k x (sym (at-is u k) ∙ q), u.long) in
          (omega arith, ap (λ o. unwrap_or o 0) (ap (option_map (λ (y : Bor ℕ). y.now)) (sym q) ∙ h w))

  module _ (keeps : CallKeepsClosure g f) (says : (i : ℕ) (x : Bor ℕ) (b : Bool) (f' : F) → i < length xs → x.now ≡ slice_index xs i → Called g f (x, tt) b f' → b ≡ p i) where
    -- `.any(|x| ..)`: returns c = any_slice _ _ (p ..) _ _ (search rules) (search rules) _ c.iter.ensures.rest c.any.ensures.runs
    pub any_slice : (r : Bool) → iter_rest a ≡ xs
        → SomeRun (iter_steps {A = ℕ}) a (λ u. MatchBool r (AnyItemGives u g f true) (IsTrue u.whole × AllItemsGive u g f false))
        → r ≡ some p (length xs)
    any_slice r q (u, e, h) = any_by u (λ k x. x.now ≡ slice_index xs k) (length xs) (slice_reads q u e) g f p keeps says r h

    -- `.position(|x| ..)`, the same
    pub position_slice : (o : Option ℕ) → iter_rest a ≡ xs
        → SomeRun (iter_steps {A = ℕ}) a (λ u. MatchOption o (IsTrue u.whole × AllItemsGive u g f false) (λ i. (u.len ≡ i + 1) × IsFirstToGive u g f true false i))
        → Finds p (length xs) o
    position_slice o q (u, e, h) = position_by u (λ k x. x.now ≡ slice_index xs k) (length xs) (slice_reads q u e) g f p keeps says o h

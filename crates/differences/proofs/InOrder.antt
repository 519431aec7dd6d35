-- What is said of all or one of a list, and of lists one after the other; and two lists in order that have the same members are one.
-- Assumes nothing.
use mathlib.Core.Path.{◌≡◌, refl, sym, ◌∙◌, ap₂, subst}
use mathlib.Core.Logic.{inl, inr}
use mathlib.Core.List.{List, [], ◌∷◌, ◌++◌}
use Rattle.bus.specs.Bytes.{All}
use Rattle.differences.specs.InOrder.{Some, InOrder}

module _ {A : Type 0} (P Q : A → Type 0) where
  -- one property follows from another
  pub all_map : ((a : A) → P a → Q a) → (l : List A) → All P l → All Q l
  all_map f [] all = tt
  all_map f (a ∷ l) all = (f a all.0, all_map f l all.1)

  pub some_map : ((a : A) → P a → Q a) → (l : List A) → Some P l → Some Q l
  some_map f [] s = elim s [ ]
  some_map f (a ∷ l) (inl p) = inl (f a p)
  some_map f (a ∷ l) (inr s) = inr (some_map f l s)

  -- what holds of all holds of the one that is spoken of
  pub all_some : (l : List A) → All P l → Some Q l → Some (λ a. P a × Q a) l
  all_some [] all s = elim s [ ]
  all_some (a ∷ l) all (inl q) = inl (all.0, q)
  all_some (a ∷ l) all (inr s) = inr (all_some l all.1 s)

  pub all_both : (l : List A) → All P l → All Q l → All (λ a. P a × Q a) l
  all_both [] all all' = tt
  all_both (a ∷ l) all all' = ((all.0, all'.0), all_both l all.1 all'.1)

module _ {A : Type 0} (P : A → Type 0) where
  pub all_append : (l m : List A) → All P l → All P m → All P (l ++ m)
  all_append [] m all all' = all'
  all_append (a ∷ l) m all all' = (all.0, all_append l m all.1 all')

  pub some_first : (l m : List A) → Some P l → Some P (l ++ m)
  some_first [] m s = elim s [ ]
  some_first (a ∷ l) m (inl p) = inl p
  some_first (a ∷ l) m (inr s) = inr (some_first l m s)

  pub some_then : (l m : List A) → Some P m → Some P (l ++ m)
  some_then [] m s = s
  some_then (a ∷ l) m s = inr (some_then l m s)

-- One of a list is this very thing.
abbrev pub Among : {A : Type 0} → List A → A → Type 0
Among l e = Some (λ d. d ≡ e) l

-- what holds of all holds of a member
all_is : {A : Type 0} (P : A → Type 0) (l : List A) (e : A) → All P l → Among l e → P e
all_is P [] e all s = elim s [ ]
all_is P (a ∷ l) e all (inl i) = subst P i all.0
all_is P (a ∷ l) e all (inr s) = all_is P l e all.1 s

-- lists in one order are in another that follows from it
pub order_map : {A : Type 0} (P : A → Type 0) (Before After : A → A → Type 0) → ((a b : A) → P a → Before a b → After a b) → (l : List A) → All P l → InOrder Before l → InOrder After l
order_map P Before After f [] all o = tt
order_map P Before After f (a ∷ l) all o = (all_map (Before a) (After a) (λ b. f a b all.0) l o.0, order_map P Before After f l all.1 o.1)

module _ {A : Type 0} (Before : A → A → Type 0) where
  -- two lists in order, all of the first before all of the second
  pub order_append : (l m : List A) → InOrder Before l → InOrder Before m → All (λ a. All (Before a) m) l → InOrder Before (l ++ m)
  order_append [] m o o' apart = o'
  order_append (a ∷ l) m o o' apart = (all_append (Before a) l m o.0 apart.0, order_append l m o.1 o' apart.1)

  module _ (never : (a b : A) → Before a b → Before b a → ⊥) where
    -- where two lists in order have the same members, their first are the same,
    one_first : (a b : A) (l m : List A) → All (Before a) l → All (Before b) m → Among (b ∷ m) a → Among (a ∷ l) b → a ≡ b
    one_first a b l m o o' (inl i) j = sym i
    one_first a b l m o o' (inr i) (inl j) = j
    one_first a b l m o o' (inr i) (inr j) = absurd (never a b (all_is (Before a) l b o j) (all_is (Before b) m a o' i))

    -- and their others,
    among_rest : (a b e : A) (m : List A) → a ≡ b → Before a e → Among (b ∷ m) e → Among m e
    among_rest a b e m i o (inl j) = absurd (never a a (subst (Before a) (sym (i ∙ j)) o) (subst (Before a) (sym (i ∙ j)) o))
    among_rest a b e m i o (inr s) = s

    rest_among : (a b : A) (l m : List A) → a ≡ b → All (Before a) l → All (Among (b ∷ m)) l → All (Among m) l
    rest_among a b [] m i o all = tt
    rest_among a b (e ∷ l) m i o all = (among_rest a b e m i o.0 all.0, rest_among a b l m i o.1 all.1)

    -- so that they are one
    pub one_list : (l m : List A) → InOrder Before l → InOrder Before m → All (Among m) l → All (Among l) m → l ≡ m
    one_list [] [] o o' all all' = refl
    one_list [] (b ∷ m) o o' all all' = absurd all'.0
    one_list (a ∷ l) [] o o' all all' = absurd all.0
    one_list (a ∷ l) (b ∷ m) o o' all all' =
        let i = one_first a b l m o.0 o'.0 all.0 all'.0 in
        ap₂ ◌∷◌ i (one_list l m o.1 o'.1 (rest_among a b l m i o.0 all.1) (rest_among b a m l (sym i) o'.0 all'.1))

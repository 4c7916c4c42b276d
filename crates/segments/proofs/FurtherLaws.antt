-- Any walk over boxes that goes on by listings: between two boxes, what is done and the boxes that are left decide the listing. Assumes nothing.
use mathlib.Core.Path.{◌≡◌, refl, sym, ap, ◌∙◌, subst}
use mathlib.Core.Bool.{Bool, false}
use mathlib.Core.List.{List, [], ◌∷◌, ◌++◌, append_assoc, append-nil}
use Prim.Native.Nat.{ℕ, ◌+◌}
use native.Mathlib.Omega.{arith}
use lib.IntN.{ℤ}
use Rattle.std.specs.Prelude.{Option, Result, Ok, Err}
use Rattle.std.specs.Result.{IsErr}
use Rattle.boxes.specs.Boxes.{Mp4Box, boxes_of}
use Rattle.boxes.specs.Folds.{folded}
use Rattle.boxes.specs.Items.{items_of, collected}
use Rattle.boxes.specs.declared.Malformed.{Malformed}
use Rattle.boxes.proofs.BoxLaws.{items_are}
use Rattle.boxes.proofs.FoldLaws.{fold-onto, fold_stays}
use Rattle.media_times.specs.declared.Sample.{Sample}
use Rattle.segments.specs.Listings.{Listing, malformed, listing, joined_listing, total}
use Rattle.segments.specs.Walks.{Known, samples_in, IsTimed, Standing, Further, Reached}
use Rattle.segments.specs.declared.SegmentTrack.{SegmentTrack}
use Rattle.segments.specs.declared.Walk.{Walk}
use Rattle.segments.proofs.SampleLaws.{total-both}

-- a call that gives on what another found malformed
pub reached-bad : (of : SegmentTrack) (write : Bool) (before list : List (List ℤ)) (l : List Sample) (more : Listing) (r : Result (Option Walk) Malformed) → IsErr r → more ≡ malformed
    → (write ≡ false → list ≡ before) → Reached of write before l more r list
reached-bad of write before list l more (Err e) h p q = (p, q)
reached-bad of write before list l more (Ok w) h p q = absurd cc

abbrev Items : Type 0
Items = List (Result Mp4Box Malformed)

module _ (of : SegmentTrack) (write : Bool) (w : Known) (lent : List (List ℤ)) (f : Listing → Mp4Box → Listing) (s : List ℕ) where
  -- what the boxes say
  abbrev whole : Listing
  whole = folded f malformed (listing []) (boxes_of s)

  -- what the items that are left say after these samples
  abbrev left : List Sample → Items → Listing
  left done items = folded f malformed (listing done) (collected items)

  pub record Between (items : Items) (v : Known) (list : List (List ℤ)) : Type 0 where
    pub done : List Sample
    pub folds : left done items ≡ whole
    pub stands : (before : List (List ℤ)) (l : List Sample) → Standing of write before l w lent → Standing of write before (l ++ done) v list

  pub between_start : Between (items_of s) w lent
  between_start = record { done = []; folds = ap (folded f malformed (listing [])) (items_are s); stands = λ before l st. rw (append-nil l) st }

  module _ (items : Items) (v : Known) (list : List (List ℤ)) (b : Between items v list) where
    -- where nothing is left, it went on by all
    pub between-end : items ≡ [] → (before : List (List ℤ)) (l : List Sample) → Standing of write before l w lent → Further of write before l whole v list
    between-end e before l st =
        subst (λ (x : Listing). Further of write before l x v list) (sym (ap (left b.done) e) ∙ b.folds)
        (record { listed = refl; standing = b.stands before l st })

    module _ (rest : Items) where
      -- where no box stands, it is malformed
      pub between-bad : (x : Malformed) → items ≡ Err x ∷ rest → whole ≡ malformed
      between-bad x e = sym (sym (ap (left b.done) e) ∙ b.folds)

      module _ (x : Mp4Box) (e : items ≡ Ok x ∷ rest) where
        turned : (next : Listing) → f (listing b.done) x ≡ next → folded f malformed next (collected rest) ≡ whole
        turned next p =
            sym (ap (left b.done) e ∙ (fold-onto f malformed (listing b.done) x (collected rest) ∙ ap (λ (a : Listing). folded f malformed a (collected rest)) p)) ∙ b.folds

        -- a box that is malformed
        pub between-malformed : ((y : Mp4Box) → f malformed y ≡ malformed) → f (listing b.done) x ≡ malformed → whole ≡ malformed
        between-malformed stays p = sym (sym (fold_stays f malformed stays (collected rest)) ∙ turned malformed p)

        -- a box that says nothing
        pub between-other : f (listing b.done) x ≡ listing b.done → Between rest v list
        between-other p = record { done = b.done; folds = turned (listing b.done) p; stands = b.stands }

        -- a box with more samples, after which the walk has gone on by them
        pub between_more : (m : Listing) (v' : Known) (list' : List (List ℤ)) → f (listing b.done) x ≡ joined_listing b.done m → m ≡ listing (samples_in m)
            → ((before : List (List ℤ)) (l : List Sample) → Standing of write before l v list → Standing of write before (l ++ samples_in m) v' list')
            → Between rest v' list'
        between_more m v' list' p listed st = record {
          done = b.done ++ samples_in m;
          folds = turned (listing (b.done ++ samples_in m)) (p ∙ ap (joined_listing b.done) listed);
          stands = λ before l y. subst (λ (n : List Sample). Standing of write before n v' list') (append_assoc l b.done (samples_in m)) (st before (l ++ b.done) (b.stands before l y));
        }

  -- the same where the first sample has a time: the next one's is known
  pub record BetweenAt (t : ℕ) (items : Items) (v : Known) (list : List (List ℤ)) : Type 0 where
    pub between : Between items v list
    pub timed : IsTimed (t + total between.done) v

  module _ (t : ℕ) where
    pub at-start : IsTimed t w → BetweenAt t (items_of s) w lent
    unfolding between_start
    at-start tm = record { between = between_start; timed = λ g. let e = tm g in omega (arith, e) }

    module _ (items : Items) (v : Known) (list : List (List ℤ)) (b : BetweenAt t items v list) (rest : Items) (x : Mp4Box) (e : items ≡ Ok x ∷ rest) where
      pub at_other : f (listing b.between.done) x ≡ listing b.between.done → BetweenAt t rest v list
      unfolding between-other
      at_other p = record { between = between-other items v list b.between rest x e p; timed = b.timed }

      pub at_more : (m : Listing) (v' : Known) (list' : List (List ℤ)) → f (listing b.between.done) x ≡ joined_listing b.between.done m → m ≡ listing (samples_in m)
          → ((before : List (List ℤ)) (l : List Sample) → Standing of write before l v list → Standing of write before (l ++ samples_in m) v' list')
          → IsTimed (t + total b.between.done + total (samples_in m)) v'
          → BetweenAt t rest v' list'
      unfolding between_more
      at_more m v' list' p listed st tm = record {
        between = between_more items v list b.between rest x e m v' list' p listed st;
        timed = λ g. let h = tm g in let q = total-both b.between.done (samples_in m) in omega (arith, h, q);
      }

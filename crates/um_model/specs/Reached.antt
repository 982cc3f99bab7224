-- The least set that holds some things and is closed under a rule.
-- Follows no manual page: "and so on for those" is said in it.
-- Enabling, known units and what a transaction demands depend on this file.

-- the first things, and with each thing all that it leads to
pub data Reached {A : Type 0} (First : A → Type 0) (Next : A → A → Type 0) : A → Type 0 where
  first : {a : A} → First a → Reached First Next a
  next : {a b : A} → Reached First Next a → Next a b → Reached First Next b

-- What is compared of a battle, and worked examples of whole battles.
mod Reports
mod WorkedBattles
mod WorkedBounds
mod WorkedConditions
mod WorkedCorners
-- Recorded battles, written by tools/gen.
mod Battles1
mod Battles2
mod Battles3
mod Battles4
mod Battles5
mod Battles6

-- The species, 1 to 151 (docs/TABLES.md, "Species").
use Rattle.std.specs.Prelude.{ℕ, List, [], ◌-◌, ◌∷◌, slice_index_or}
use Rattle.gen1_tables.specs.declared.types.Element.{Element}
use Rattle.gen1_tables.specs.declared.types.Element.TheVariants.{Normal, Fighting, Flying, Poison, Ground, Rock, Bug, Ghost, Fire, Water, Grass, Electric, Psychic, Ice, Dragon}

-- Two types and the base stats. A species of one type has it twice.
pub record SpeciesRow : Type 0 where
  pub first_type : Element
  pub second_type : Element
  pub hp : ℕ
  pub attack : ℕ
  pub defense : ℕ
  pub speed : ℕ
  pub special : ℕ

abbrev row : Element → Element → ℕ → ℕ → ℕ → ℕ → ℕ → SpeciesRow
row t u h a d s c = record { first_type = t; second_type = u; hp = h; attack = a; defense = d; speed = s; special = c }

abbrev pub types_of : SpeciesRow → List Element
types_of r = r.first_type ∷ r.second_type ∷ []

abbrev pub base_of : SpeciesRow → List ℕ
base_of r = r.hp ∷ r.attack ∷ r.defense ∷ r.speed ∷ r.special ∷ []

unfoldable pub species_rows : List SpeciesRow
species_rows =
    row Grass Poison 45 49 49 45 65 ∷  -- Bulbasaur
    row Grass Poison 60 62 63 60 80 ∷  -- Ivysaur
    row Grass Poison 80 82 83 80 100 ∷  -- Venusaur
    row Fire Fire 39 52 43 65 50 ∷  -- Charmander
    row Fire Fire 58 64 58 80 65 ∷  -- Charmeleon
    row Fire Flying 78 84 78 100 85 ∷  -- Charizard
    row Water Water 44 48 65 43 50 ∷  -- Squirtle
    row Water Water 59 63 80 58 65 ∷  -- Wartortle
    row Water Water 79 83 100 78 85 ∷  -- Blastoise
    row Bug Bug 45 30 35 45 20 ∷  -- Caterpie
    row Bug Bug 50 20 55 30 25 ∷  -- Metapod
    row Bug Flying 60 45 50 70 80 ∷  -- Butterfree
    row Bug Poison 40 35 30 50 20 ∷  -- Weedle
    row Bug Poison 45 25 50 35 25 ∷  -- Kakuna
    row Bug Poison 65 80 40 75 45 ∷  -- Beedrill
    row Normal Flying 40 45 40 56 35 ∷  -- Pidgey
    row Normal Flying 63 60 55 71 50 ∷  -- Pidgeotto
    row Normal Flying 83 80 75 91 70 ∷  -- Pidgeot
    row Normal Normal 30 56 35 72 25 ∷  -- Rattata
    row Normal Normal 55 81 60 97 50 ∷  -- Raticate
    row Normal Flying 40 60 30 70 31 ∷  -- Spearow
    row Normal Flying 65 90 65 100 61 ∷  -- Fearow
    row Poison Poison 35 60 44 55 40 ∷  -- Ekans
    row Poison Poison 60 85 69 80 65 ∷  -- Arbok
    row Electric Electric 35 55 30 90 50 ∷  -- Pikachu
    row Electric Electric 60 90 55 100 90 ∷  -- Raichu
    row Ground Ground 50 75 85 40 30 ∷  -- Sandshrew
    row Ground Ground 75 100 110 65 55 ∷  -- Sandslash
    row Poison Poison 55 47 52 41 40 ∷  -- Nidoran-F
    row Poison Poison 70 62 67 56 55 ∷  -- Nidorina
    row Poison Ground 90 82 87 76 75 ∷  -- Nidoqueen
    row Poison Poison 46 57 40 50 40 ∷  -- Nidoran-M
    row Poison Poison 61 72 57 65 55 ∷  -- Nidorino
    row Poison Ground 81 92 77 85 75 ∷  -- Nidoking
    row Normal Normal 70 45 48 35 60 ∷  -- Clefairy
    row Normal Normal 95 70 73 60 85 ∷  -- Clefable
    row Fire Fire 38 41 40 65 65 ∷  -- Vulpix
    row Fire Fire 73 76 75 100 100 ∷  -- Ninetales
    row Normal Normal 115 45 20 20 25 ∷  -- Jigglypuff
    row Normal Normal 140 70 45 45 50 ∷  -- Wigglytuff
    row Poison Flying 40 45 35 55 40 ∷  -- Zubat
    row Poison Flying 75 80 70 90 75 ∷  -- Golbat
    row Grass Poison 45 50 55 30 75 ∷  -- Oddish
    row Grass Poison 60 65 70 40 85 ∷  -- Gloom
    row Grass Poison 75 80 85 50 100 ∷  -- Vileplume
    row Bug Grass 35 70 55 25 55 ∷  -- Paras
    row Bug Grass 60 95 80 30 80 ∷  -- Parasect
    row Bug Poison 60 55 50 45 40 ∷  -- Venonat
    row Bug Poison 70 65 60 90 90 ∷  -- Venomoth
    row Ground Ground 10 55 25 95 45 ∷  -- Diglett
    row Ground Ground 35 80 50 120 70 ∷  -- Dugtrio
    row Normal Normal 40 45 35 90 40 ∷  -- Meowth
    row Normal Normal 65 70 60 115 65 ∷  -- Persian
    row Water Water 50 52 48 55 50 ∷  -- Psyduck
    row Water Water 80 82 78 85 80 ∷  -- Golduck
    row Fighting Fighting 40 80 35 70 35 ∷  -- Mankey
    row Fighting Fighting 65 105 60 95 60 ∷  -- Primeape
    row Fire Fire 55 70 45 60 50 ∷  -- Growlithe
    row Fire Fire 90 110 80 95 80 ∷  -- Arcanine
    row Water Water 40 50 40 90 40 ∷  -- Poliwag
    row Water Water 65 65 65 90 50 ∷  -- Poliwhirl
    row Water Fighting 90 85 95 70 70 ∷  -- Poliwrath
    row Psychic Psychic 25 20 15 90 105 ∷  -- Abra
    row Psychic Psychic 40 35 30 105 120 ∷  -- Kadabra
    row Psychic Psychic 55 50 45 120 135 ∷  -- Alakazam
    row Fighting Fighting 70 80 50 35 35 ∷  -- Machop
    row Fighting Fighting 80 100 70 45 50 ∷  -- Machoke
    row Fighting Fighting 90 130 80 55 65 ∷  -- Machamp
    row Grass Poison 50 75 35 40 70 ∷  -- Bellsprout
    row Grass Poison 65 90 50 55 85 ∷  -- Weepinbell
    row Grass Poison 80 105 65 70 100 ∷  -- Victreebel
    row Water Poison 40 40 35 70 100 ∷  -- Tentacool
    row Water Poison 80 70 65 100 120 ∷  -- Tentacruel
    row Rock Ground 40 80 100 20 30 ∷  -- Geodude
    row Rock Ground 55 95 115 35 45 ∷  -- Graveler
    row Rock Ground 80 110 130 45 55 ∷  -- Golem
    row Fire Fire 50 85 55 90 65 ∷  -- Ponyta
    row Fire Fire 65 100 70 105 80 ∷  -- Rapidash
    row Water Psychic 90 65 65 15 40 ∷  -- Slowpoke
    row Water Psychic 95 75 110 30 80 ∷  -- Slowbro
    row Electric Electric 25 35 70 45 95 ∷  -- Magnemite
    row Electric Electric 50 60 95 70 120 ∷  -- Magneton
    row Normal Flying 52 65 55 60 58 ∷  -- Farfetchd
    row Normal Flying 35 85 45 75 35 ∷  -- Doduo
    row Normal Flying 60 110 70 100 60 ∷  -- Dodrio
    row Water Water 65 45 55 45 70 ∷  -- Seel
    row Water Ice 90 70 80 70 95 ∷  -- Dewgong
    row Poison Poison 80 80 50 25 40 ∷  -- Grimer
    row Poison Poison 105 105 75 50 65 ∷  -- Muk
    row Water Water 30 65 100 40 45 ∷  -- Shellder
    row Water Ice 50 95 180 70 85 ∷  -- Cloyster
    row Ghost Poison 30 35 30 80 100 ∷  -- Gastly
    row Ghost Poison 45 50 45 95 115 ∷  -- Haunter
    row Ghost Poison 60 65 60 110 130 ∷  -- Gengar
    row Rock Ground 35 45 160 70 30 ∷  -- Onix
    row Psychic Psychic 60 48 45 42 90 ∷  -- Drowzee
    row Psychic Psychic 85 73 70 67 115 ∷  -- Hypno
    row Water Water 30 105 90 50 25 ∷  -- Krabby
    row Water Water 55 130 115 75 50 ∷  -- Kingler
    row Electric Electric 40 30 50 100 55 ∷  -- Voltorb
    row Electric Electric 60 50 70 140 80 ∷  -- Electrode
    row Grass Psychic 60 40 80 40 60 ∷  -- Exeggcute
    row Grass Psychic 95 95 85 55 125 ∷  -- Exeggutor
    row Ground Ground 50 50 95 35 40 ∷  -- Cubone
    row Ground Ground 60 80 110 45 50 ∷  -- Marowak
    row Fighting Fighting 50 120 53 87 35 ∷  -- Hitmonlee
    row Fighting Fighting 50 105 79 76 35 ∷  -- Hitmonchan
    row Normal Normal 90 55 75 30 60 ∷  -- Lickitung
    row Poison Poison 40 65 95 35 60 ∷  -- Koffing
    row Poison Poison 65 90 120 60 85 ∷  -- Weezing
    row Ground Rock 80 85 95 25 30 ∷  -- Rhyhorn
    row Ground Rock 105 130 120 40 45 ∷  -- Rhydon
    row Normal Normal 250 5 5 50 105 ∷  -- Chansey
    row Grass Grass 65 55 115 60 100 ∷  -- Tangela
    row Normal Normal 105 95 80 90 40 ∷  -- Kangaskhan
    row Water Water 30 40 70 60 70 ∷  -- Horsea
    row Water Water 55 65 95 85 95 ∷  -- Seadra
    row Water Water 45 67 60 63 50 ∷  -- Goldeen
    row Water Water 80 92 65 68 80 ∷  -- Seaking
    row Water Water 30 45 55 85 70 ∷  -- Staryu
    row Water Psychic 60 75 85 115 100 ∷  -- Starmie
    row Psychic Psychic 40 45 65 90 100 ∷  -- Mr. Mime
    row Bug Flying 70 110 80 105 55 ∷  -- Scyther
    row Ice Psychic 65 50 35 95 95 ∷  -- Jynx
    row Electric Electric 65 83 57 105 85 ∷  -- Electabuzz
    row Fire Fire 65 95 57 93 85 ∷  -- Magmar
    row Bug Bug 65 125 100 85 55 ∷  -- Pinsir
    row Normal Normal 75 100 95 110 70 ∷  -- Tauros
    row Water Water 20 10 55 80 20 ∷  -- Magikarp
    row Water Flying 95 125 79 81 100 ∷  -- Gyarados
    row Water Ice 130 85 80 60 95 ∷  -- Lapras
    row Normal Normal 48 48 48 48 48 ∷  -- Ditto
    row Normal Normal 55 55 50 55 65 ∷  -- Eevee
    row Water Water 130 65 60 65 110 ∷  -- Vaporeon
    row Electric Electric 65 65 60 130 110 ∷  -- Jolteon
    row Fire Fire 65 130 60 65 110 ∷  -- Flareon
    row Normal Normal 65 60 70 40 75 ∷  -- Porygon
    row Rock Water 35 40 100 35 90 ∷  -- Omanyte
    row Rock Water 70 60 125 55 115 ∷  -- Omastar
    row Rock Water 30 80 90 55 45 ∷  -- Kabuto
    row Rock Water 60 115 105 80 70 ∷  -- Kabutops
    row Rock Flying 80 105 65 130 60 ∷  -- Aerodactyl
    row Normal Normal 160 110 65 30 65 ∷  -- Snorlax
    row Ice Flying 90 85 100 85 125 ∷  -- Articuno
    row Electric Flying 90 90 85 100 125 ∷  -- Zapdos
    row Fire Flying 90 100 90 90 125 ∷  -- Moltres
    row Dragon Dragon 41 64 45 50 50 ∷  -- Dratini
    row Dragon Dragon 61 84 65 70 70 ∷  -- Dragonair
    row Dragon Flying 91 134 95 80 100 ∷  -- Dragonite
    row Psychic Psychic 106 110 90 130 154 ∷  -- Mewtwo
    row Psychic Psychic 100 100 100 100 100 ∷  -- Mew
    []

-- The row for a number that no species has.
abbrev no_species : SpeciesRow
no_species = row Normal Normal 0 0 0 0 0

-- The species with a number.
unfoldable pub species_row : ℕ → SpeciesRow
species_row number = slice_index_or species_rows (number - 1) no_species

-- The names of species and moves in the order of their numbers, and the numbers of names (docs/TABLES.md, "Species",
-- "Moves").
use Rattle.std.specs.Prelude.{ℕ, ◌+◌, ◌-◌, List, [], ◌∷◌, Option, option_map, position, bytes_eq, slice_index_or, codes}

-- The name at a place of a list, counted from 1.
unfoldable pub name_at : List (List ℕ) → ℕ → List ℕ
name_at names place = slice_index_or names (place - 1) []

-- The place, counted from 1, of the first name that equals the text.
unfoldable pub place_of : List (List ℕ) → List ℕ → Option ℕ
place_of names text = option_map (λ index. index + 1) (position (λ name. bytes_eq name text) names)

unfoldable pub species_names : List (List ℕ)
species_names =
    codes "Bulbasaur" ∷
    codes "Ivysaur" ∷
    codes "Venusaur" ∷
    codes "Charmander" ∷
    codes "Charmeleon" ∷
    codes "Charizard" ∷
    codes "Squirtle" ∷
    codes "Wartortle" ∷
    codes "Blastoise" ∷
    codes "Caterpie" ∷
    codes "Metapod" ∷
    codes "Butterfree" ∷
    codes "Weedle" ∷
    codes "Kakuna" ∷
    codes "Beedrill" ∷
    codes "Pidgey" ∷
    codes "Pidgeotto" ∷
    codes "Pidgeot" ∷
    codes "Rattata" ∷
    codes "Raticate" ∷
    codes "Spearow" ∷
    codes "Fearow" ∷
    codes "Ekans" ∷
    codes "Arbok" ∷
    codes "Pikachu" ∷
    codes "Raichu" ∷
    codes "Sandshrew" ∷
    codes "Sandslash" ∷
    codes "Nidoran-F" ∷
    codes "Nidorina" ∷
    codes "Nidoqueen" ∷
    codes "Nidoran-M" ∷
    codes "Nidorino" ∷
    codes "Nidoking" ∷
    codes "Clefairy" ∷
    codes "Clefable" ∷
    codes "Vulpix" ∷
    codes "Ninetales" ∷
    codes "Jigglypuff" ∷
    codes "Wigglytuff" ∷
    codes "Zubat" ∷
    codes "Golbat" ∷
    codes "Oddish" ∷
    codes "Gloom" ∷
    codes "Vileplume" ∷
    codes "Paras" ∷
    codes "Parasect" ∷
    codes "Venonat" ∷
    codes "Venomoth" ∷
    codes "Diglett" ∷
    codes "Dugtrio" ∷
    codes "Meowth" ∷
    codes "Persian" ∷
    codes "Psyduck" ∷
    codes "Golduck" ∷
    codes "Mankey" ∷
    codes "Primeape" ∷
    codes "Growlithe" ∷
    codes "Arcanine" ∷
    codes "Poliwag" ∷
    codes "Poliwhirl" ∷
    codes "Poliwrath" ∷
    codes "Abra" ∷
    codes "Kadabra" ∷
    codes "Alakazam" ∷
    codes "Machop" ∷
    codes "Machoke" ∷
    codes "Machamp" ∷
    codes "Bellsprout" ∷
    codes "Weepinbell" ∷
    codes "Victreebel" ∷
    codes "Tentacool" ∷
    codes "Tentacruel" ∷
    codes "Geodude" ∷
    codes "Graveler" ∷
    codes "Golem" ∷
    codes "Ponyta" ∷
    codes "Rapidash" ∷
    codes "Slowpoke" ∷
    codes "Slowbro" ∷
    codes "Magnemite" ∷
    codes "Magneton" ∷
    codes "Farfetchd" ∷
    codes "Doduo" ∷
    codes "Dodrio" ∷
    codes "Seel" ∷
    codes "Dewgong" ∷
    codes "Grimer" ∷
    codes "Muk" ∷
    codes "Shellder" ∷
    codes "Cloyster" ∷
    codes "Gastly" ∷
    codes "Haunter" ∷
    codes "Gengar" ∷
    codes "Onix" ∷
    codes "Drowzee" ∷
    codes "Hypno" ∷
    codes "Krabby" ∷
    codes "Kingler" ∷
    codes "Voltorb" ∷
    codes "Electrode" ∷
    codes "Exeggcute" ∷
    codes "Exeggutor" ∷
    codes "Cubone" ∷
    codes "Marowak" ∷
    codes "Hitmonlee" ∷
    codes "Hitmonchan" ∷
    codes "Lickitung" ∷
    codes "Koffing" ∷
    codes "Weezing" ∷
    codes "Rhyhorn" ∷
    codes "Rhydon" ∷
    codes "Chansey" ∷
    codes "Tangela" ∷
    codes "Kangaskhan" ∷
    codes "Horsea" ∷
    codes "Seadra" ∷
    codes "Goldeen" ∷
    codes "Seaking" ∷
    codes "Staryu" ∷
    codes "Starmie" ∷
    codes "Mr. Mime" ∷
    codes "Scyther" ∷
    codes "Jynx" ∷
    codes "Electabuzz" ∷
    codes "Magmar" ∷
    codes "Pinsir" ∷
    codes "Tauros" ∷
    codes "Magikarp" ∷
    codes "Gyarados" ∷
    codes "Lapras" ∷
    codes "Ditto" ∷
    codes "Eevee" ∷
    codes "Vaporeon" ∷
    codes "Jolteon" ∷
    codes "Flareon" ∷
    codes "Porygon" ∷
    codes "Omanyte" ∷
    codes "Omastar" ∷
    codes "Kabuto" ∷
    codes "Kabutops" ∷
    codes "Aerodactyl" ∷
    codes "Snorlax" ∷
    codes "Articuno" ∷
    codes "Zapdos" ∷
    codes "Moltres" ∷
    codes "Dratini" ∷
    codes "Dragonair" ∷
    codes "Dragonite" ∷
    codes "Mewtwo" ∷
    codes "Mew" ∷
    []

unfoldable pub move_names : List (List ℕ)
move_names =
    codes "Pound" ∷
    codes "Karate Chop" ∷
    codes "Double Slap" ∷
    codes "Comet Punch" ∷
    codes "Mega Punch" ∷
    codes "Pay Day" ∷
    codes "Fire Punch" ∷
    codes "Ice Punch" ∷
    codes "Thunder Punch" ∷
    codes "Scratch" ∷
    codes "Vice Grip" ∷
    codes "Guillotine" ∷
    codes "Razor Wind" ∷
    codes "Swords Dance" ∷
    codes "Cut" ∷
    codes "Gust" ∷
    codes "Wing Attack" ∷
    codes "Whirlwind" ∷
    codes "Fly" ∷
    codes "Bind" ∷
    codes "Slam" ∷
    codes "Vine Whip" ∷
    codes "Stomp" ∷
    codes "Double Kick" ∷
    codes "Mega Kick" ∷
    codes "Jump Kick" ∷
    codes "Rolling Kick" ∷
    codes "Sand Attack" ∷
    codes "Headbutt" ∷
    codes "Horn Attack" ∷
    codes "Fury Attack" ∷
    codes "Horn Drill" ∷
    codes "Tackle" ∷
    codes "Body Slam" ∷
    codes "Wrap" ∷
    codes "Take Down" ∷
    codes "Thrash" ∷
    codes "Double-Edge" ∷
    codes "Tail Whip" ∷
    codes "Poison Sting" ∷
    codes "Twineedle" ∷
    codes "Pin Missile" ∷
    codes "Leer" ∷
    codes "Bite" ∷
    codes "Growl" ∷
    codes "Roar" ∷
    codes "Sing" ∷
    codes "Supersonic" ∷
    codes "Sonic Boom" ∷
    codes "Disable" ∷
    codes "Acid" ∷
    codes "Ember" ∷
    codes "Flamethrower" ∷
    codes "Mist" ∷
    codes "Water Gun" ∷
    codes "Hydro Pump" ∷
    codes "Surf" ∷
    codes "Ice Beam" ∷
    codes "Blizzard" ∷
    codes "Psybeam" ∷
    codes "Bubble Beam" ∷
    codes "Aurora Beam" ∷
    codes "Hyper Beam" ∷
    codes "Peck" ∷
    codes "Drill Peck" ∷
    codes "Submission" ∷
    codes "Low Kick" ∷
    codes "Counter" ∷
    codes "Seismic Toss" ∷
    codes "Strength" ∷
    codes "Absorb" ∷
    codes "Mega Drain" ∷
    codes "Leech Seed" ∷
    codes "Growth" ∷
    codes "Razor Leaf" ∷
    codes "Solar Beam" ∷
    codes "Poison Powder" ∷
    codes "Stun Spore" ∷
    codes "Sleep Powder" ∷
    codes "Petal Dance" ∷
    codes "String Shot" ∷
    codes "Dragon Rage" ∷
    codes "Fire Spin" ∷
    codes "Thunder Shock" ∷
    codes "Thunderbolt" ∷
    codes "Thunder Wave" ∷
    codes "Thunder" ∷
    codes "Rock Throw" ∷
    codes "Earthquake" ∷
    codes "Fissure" ∷
    codes "Dig" ∷
    codes "Toxic" ∷
    codes "Confusion" ∷
    codes "Psychic" ∷
    codes "Hypnosis" ∷
    codes "Meditate" ∷
    codes "Agility" ∷
    codes "Quick Attack" ∷
    codes "Rage" ∷
    codes "Teleport" ∷
    codes "Night Shade" ∷
    codes "Mimic" ∷
    codes "Screech" ∷
    codes "Double Team" ∷
    codes "Recover" ∷
    codes "Harden" ∷
    codes "Minimize" ∷
    codes "Smokescreen" ∷
    codes "Confuse Ray" ∷
    codes "Withdraw" ∷
    codes "Defense Curl" ∷
    codes "Barrier" ∷
    codes "Light Screen" ∷
    codes "Haze" ∷
    codes "Reflect" ∷
    codes "Focus Energy" ∷
    codes "Bide" ∷
    codes "Metronome" ∷
    codes "Mirror Move" ∷
    codes "Self-Destruct" ∷
    codes "Egg Bomb" ∷
    codes "Lick" ∷
    codes "Smog" ∷
    codes "Sludge" ∷
    codes "Bone Club" ∷
    codes "Fire Blast" ∷
    codes "Waterfall" ∷
    codes "Clamp" ∷
    codes "Swift" ∷
    codes "Skull Bash" ∷
    codes "Spike Cannon" ∷
    codes "Constrict" ∷
    codes "Amnesia" ∷
    codes "Kinesis" ∷
    codes "Soft-Boiled" ∷
    codes "High Jump Kick" ∷
    codes "Glare" ∷
    codes "Dream Eater" ∷
    codes "Poison Gas" ∷
    codes "Barrage" ∷
    codes "Leech Life" ∷
    codes "Lovely Kiss" ∷
    codes "Sky Attack" ∷
    codes "Transform" ∷
    codes "Bubble" ∷
    codes "Dizzy Punch" ∷
    codes "Spore" ∷
    codes "Flash" ∷
    codes "Psywave" ∷
    codes "Splash" ∷
    codes "Acid Armor" ∷
    codes "Crabhammer" ∷
    codes "Explosion" ∷
    codes "Fury Swipes" ∷
    codes "Bonemerang" ∷
    codes "Rest" ∷
    codes "Rock Slide" ∷
    codes "Hyper Fang" ∷
    codes "Sharpen" ∷
    codes "Conversion" ∷
    codes "Tri Attack" ∷
    codes "Super Fang" ∷
    codes "Slash" ∷
    codes "Substitute" ∷
    codes "Struggle" ∷
    []

-- The name of a species by its number.
unfoldable pub species_name : ℕ → List ℕ
species_name = name_at species_names

-- The name of a move by its number.
unfoldable pub move_name : ℕ → List ℕ
move_name = name_at move_names

-- The number of the species with this name.
unfoldable pub species_named : List ℕ → Option ℕ
species_named text = place_of species_names text

-- The number of the move with this name.
unfoldable pub move_named : List ℕ → Option ℕ
move_named text = place_of move_names text

pub mod HarmAllows
